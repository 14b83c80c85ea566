-- `reading_imprints::tree::SearchTree::landing_of` meets its contract. Assumes nothing.
use Prim.Native.Nat.{ℕ, suc, ◌+◌, ◌-◌, ◌^◌, ◌≤◌}
use mathlib.Core.Path.{◌≡◌, ap, ◌∙◌, subst}
use mathlib.Core.Bool.{Bool, cond}
use mathlib.Core.List.{List}
use native.Mathlib.Omega.{arith}
use lib.IntN.{ℤ, pos}
use lib.ListN.{get_or, length}
use mir.Syntax.{w32}
use mir.Val.{to_z, of_z, hbits}
use mir.ValLaws.{to_z-of_z}
use borrow.Author.Rules.{rules}
use Rattle.bins.specs.Bins.{readings, bin}
use Rattle.bins.proofs.BinLaws.{bin_le}
use Rattle.bins.proofs.TurnLaws.{plain_le}
use Rattle.bins.proofs.LadderLaws.{behind, passed, passed_le, passed_upper, node_behind, fits_greatest}
use Rattle.reading_imprints.proofs.tree.SearchTree.landing_of.Goals as goal
use Rattle.reading_imprints.proofs.tree.SearchTree.landing_of.Goals.{After-behind-n}

-- v goes on from this turn's node as the walk of its bin does
passes : (c : After-behind-n) → c.behind-n.result ≡ behind (bin readings c.args.self.now c.args.v) c.loop-i.i
passes c =
    let i = c.loop-i.i in
    let node : ℤ = get_or c.self.inside.nodes i (pos 0) in
    c.behind-n.ensures.which
    ∙ ap (λ (t : Bool). cond t 0 1) (plain_le w32 c.args.v node c.ranges.v (search rules))
    ∙ node_behind readings c.self.inside.borders.now c.self.invariant.0 c.args.v (fits_greatest (2 ^ hbits w32) c.args.v c.ranges.v.sfits) c.self.inside.nodes c.self.invariant.1 i (omega (arith, c.loop-i-test.true))
    ∙ ap (λ (l : List ℤ). behind (bin readings l c.args.v) i) c.self.view_is

pub overflow_add-n : goal.overflow_add-n
overflow_add-n c =
    let l = c.loop-i in
    omega (arith, l.invariant, passed_le (bin readings c.args.self.now (to_z w32 (of_z w32 c.args.v))) (l.i - 1), c.behind-n.ensures.few)

pub loop-i-preserved : goal.loop-i-preserved
loop-i-preserved c =
    let l = c.loop-i in
    let bs = c.args.self.now in
    let b : ℕ = bin readings bs c.args.v in
    let e = to_z-of_z w32 c.args.v c.ranges.v in
    let before : l.n ≡ 8 + passed b (l.i - 1) = l.invariant ∙ ap (λ (x : ℤ). 8 + passed (bin readings bs x) (l.i - 1)) e in
    let here : suc (l.i - 1) ≡ l.i = omega arith in
    let there : l.i + 1 - 1 ≡ suc (l.i - 1) = omega arith in
    rw e (omega (arith, before, passes (goal.at.loop-i-preserved c).After-behind-n, ap (passed b) there, ap (behind b) here))

pub returns : goal.returns
returns c =
    let l = c.loop-i in
    let bs = c.args.self.now in
    let b : ℕ = bin readings bs c.args.v in
    let seven : l.i - 1 ≡ 7 = omega (arith, c.loop-i-test.false) in
    let few : length bs ≤ 63 = subst (λ (l : List ℤ). length l ≤ 63) c.self.view_is c.self.invariant.0 in
    l.invariant ∙ ap (λ (x : ℤ). 8 + passed (bin readings bs x) (l.i - 1)) (to_z-of_z w32 c.args.v c.ranges.v) ∙ ap (λ (m : ℕ). 8 + m) (ap (passed b) seven ∙ passed_upper b (omega (arith, bin_le readings bs c.args.v, few)))
