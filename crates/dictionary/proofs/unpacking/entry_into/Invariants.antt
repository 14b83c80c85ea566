-- The plain entry's imprints, copied so far. Assumes nothing.
use mathlib.Core.Path.{◌≡◌}
use lib.ListN.{take}
use lib.Seq.{sets}
use Rattle.dictionary.proofs.unpacking.entry_into.Given as goal

abbrev pub invariant-loop-i : goal.invariant-loop-i
invariant-loop-i l = l.list ≡ sets l.fn.list l.at (take l.i l.imprint-items)
