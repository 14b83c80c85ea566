-- `hour_register::cutting::Entries::write` meets its contract. Assumes nothing.
use Prim.Native.Nat.{ℕ, suc, ◌+◌, ◌-◌}
use mathlib.Core.Path.{◌≡◌, ap, ◌∙◌}
use mathlib.Core.List.{[], ◌∷◌}
use native.Mathlib.Omega.{arith}
use lib.IntN.{pos}
use lib.ListN.{get_or, drop}
use mir.Syntax.{w32}
use mir.ValLaws.{to_z-of_z}
use borrow.Author.Rules.{rules}
use Rattle.hour_register.specs.Register.{hour_of}
use Rattle.hour_register.proofs.NoteLaws.{natural_at, writing_new, here, first_is, repeat_is, next_is, writing_turn}
use Rattle.hour_register.specs.loops.Cuts.{stays}
use Rattle.hour_register.proofs.cutting.Entries.write.Goals as goal

pub loop-e-init : goal.loop-e-init
loop-e-init c = (0, [], writing_new c.args.self.now.minutes.now c.args.self.now.count c.args.words.now c.args.self.now.counted c.args.self.now.natural c.requires.0 c.requires.1)

pub bounds-minutes-first : goal.bounds-minutes-first
bounds-minutes-first c =
    let l = c.loop-e in
    omega (arith, c.noted_first-first.ensures, first_is c.args.self.now.minutes.now c.args.self.now.count l.words l.e l.invariant.0 l.invariant.1 l.invariant.2 (omega arith), here c.args.self.now.minutes.now c.args.self.now.count l.words l.e l.invariant.0 l.invariant.1 l.invariant.2 (omega arith))

pub hour-requires : goal.hour-requires
hour-requires c =
    let l = c.loop-e in
    let m = c.args.self.now.minutes.now in
    let p : c.noted_first-first.result ≡ l.invariant.0 = c.noted_first-first.ensures ∙ first_is c.args.self.now.minutes.now c.args.self.now.count l.words l.e l.invariant.0 l.invariant.1 l.invariant.2 (omega arith) in
    let e = to_z-of_z w32 (get_or m c.noted_first-first.result (pos 0)) (search rules) in
    rw e (rw p (natural_at m c.args.self.now.count l.e l.invariant.0 l.invariant.2.cutting (here c.args.self.now.minutes.now c.args.self.now.count l.words l.e l.invariant.0 l.invariant.1 l.invariant.2 (omega arith))))

pub overflow_sub-next : goal.overflow_sub-next
overflow_sub-next c =
    let l = c.loop-e in
    omega (arith, c.noted_first-first.ensures, first_is c.args.self.now.minutes.now c.args.self.now.count l.words l.e l.invariant.0 l.invariant.1 l.invariant.2 (omega arith), c.noted_first-next.ensures, next_is c.args.self.now.minutes.now c.args.self.now.count l.words l.e l.invariant.0 l.invariant.1 l.invariant.2 (omega arith))

pub loop-e-preserved : goal.loop-e-preserved
loop-e-preserved c =
    let l = c.loop-e in
    let m = c.args.self.now.minutes.now in
    let w = l.words in
    let at = l.invariant.0 in
    let hs = l.invariant.1 in
    let v = get_or m at (pos 0) in
    let k = suc (stays v (drop (suc at) m)) in
    let x = c.noted_first-first.result in
    let y = c.noted_first-next.result in
    let p : x ≡ at = c.noted_first-first.ensures ∙ first_is c.args.self.now.minutes.now c.args.self.now.count l.words l.e l.invariant.0 l.invariant.1 l.invariant.2 (omega arith) in
    let q : y ≡ at + k = c.noted_first-next.ensures ∙ next_is c.args.self.now.minutes.now c.args.self.now.count l.words l.e l.invariant.0 l.invariant.1 l.invariant.2 (omega arith) in
    let e = to_z-of_z w32 (get_or m x (pos 0)) (search rules) in
    let h : c.hour.result ≡ hour_of v = c.hour.ensures.0 ∙ ap hour_of (e ∙ ap (λ (i : ℕ). get_or m i (pos 0)) p) in
    let r = repeat_is c.args.self.now.minutes.now c.args.self.now.count l.words l.e l.invariant.0 l.invariant.1 l.invariant.2 (omega arith) in
    let n : y - x ≡ k = omega (arith, p, q) in
    (at + k, hour_of v ∷ hs, rw (c.put_entry.ensures, h, r, n, p) (writing_turn c.args.self.now.minutes.now c.args.self.now.count l.words l.e l.invariant.0 l.invariant.1 l.invariant.2 (omega arith)))
