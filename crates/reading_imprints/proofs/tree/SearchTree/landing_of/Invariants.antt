-- `reading_imprints::tree::landing_of` meets its contract. Assumes nothing.
use Prim.Native.Nat.{◌+◌, ◌-◌}
use mathlib.Core.Path.{◌≡◌}
use Rattle.bins.specs.Bins.{readings, bin}
use Rattle.bins.proofs.LadderLaws.{passed}
use Rattle.reading_imprints.proofs.tree.SearchTree.landing_of.Given as goal

abbrev pub invariant-loop-i : goal.invariant-loop-i
invariant-loop-i l = l.n ≡ 8 + passed (bin readings l.fn.self l.v) (l.i - 1)
