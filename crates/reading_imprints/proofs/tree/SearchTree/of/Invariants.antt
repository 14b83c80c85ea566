-- `reading_imprints::tree::SearchTree.of` meets its contract. Assumes nothing.
use mathlib.Core.Path.{◌≡◌}
use mathlib.Core.List.{map}
use lib.ListN.{length, take}
use Rattle.words.specs.Lists.{from}
use Rattle.bins.specs.Bins.{readings}
use Rattle.bins.proofs.LadderLaws.{node}
use Rattle.reading_imprints.proofs.tree.SearchTree.of.Given as goal

abbrev pub invariant-loop-n : goal.invariant-loop-n
invariant-loop-n l = (length l.nodes ≡ 128) × (take l.n l.nodes ≡ map (node readings l.borders) (take l.n (from 0 128)))
