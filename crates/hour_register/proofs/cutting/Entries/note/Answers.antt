-- `hour_register::cutting::Entries::note` meets its contract. Assumes nothing.
use mathlib.Core.Path.{ap, ◌∙◌}
use native.Mathlib.Omega.{arith}
use lib.IntN.{pos}
use lib.ListN.{get_or}
use mir.Syntax.{w32}
use mir.ValLaws.{to_z-of_z}
use borrow.Author.Rules.{rules}
use Rattle.hour_register.proofs.NoteLaws.{rows_left, noting_turn}
use Rattle.hour_register.specs.Register.{hour_of}
use Rattle.hour_register.proofs.cutting.Entries.note.Goals as goal

pub loop-e-preserved : goal.loop-e-preserved
loop-e-preserved c =
    let l = c.loop-e in
    let m = c.args.self.now.minutes.now in
    let e = to_z-of_z w32 (get_or m l.at (pos 0)) (search rules) in
    rw c.entry_end-at.ensures (noting_turn m c.args.self.now.count c.args.words.now l.words l.at l.e c.hour.result (rows_left m c.args.self.now.count l.e l.at l.invariant.cutting (omega arith)) (c.hour.ensures.0 ∙ ap hour_of e) l.invariant)
