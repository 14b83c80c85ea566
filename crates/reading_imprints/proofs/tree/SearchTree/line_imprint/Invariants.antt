-- `reading_imprints::line_imprint` meets its contract. Assumes nothing.
use mathlib.Core.Path.{◌≡◌}
use lib.ListN.{take}
use Rattle.bins.specs.Bins.{readings, imprint}
use Rattle.reading_imprints.proofs.tree.SearchTree.line_imprint.Given as goal

abbrev pub invariant-loop-i : goal.invariant-loop-i
invariant-loop-i l = l.word ≡ imprint readings l.fn.self (take l.i l.rows)
