-- `reading_imprints::tree::SearchTree::full_imprint` meets its contract. Assumes nothing.
use mathlib.Core.Path.{sym, ◌∙◌}
use native.Mathlib.Omega.{arith}
use Rattle.bins.specs.Bins.{readings}
use Rattle.bins.proofs.AloneLaws.{imprint_alone}
use Rattle.reading_imprints.proofs.tree.SearchTree.full_imprint.Goals as goal

pub returns-in-Some : goal.returns-in-Some
returns-in-Some c =
    c.in-Some.ensures.alone.2
    ∙ sym (imprint_alone readings c.args.self.now c.in-Some.b c.args.rows.now (omega (arith, c.requires)) (sym c.rows_in.ensures ∙ c.if-rows_in-rows.true))
