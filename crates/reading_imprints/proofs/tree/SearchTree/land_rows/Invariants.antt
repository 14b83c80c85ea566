-- `reading_imprints::tree::SearchTree.land_rows` meets its contract. Assumes nothing.
use mathlib.Core.Path.{◌≡◌}
use mathlib.Core.List.{map}
use lib.ListN.{length, take}
use Rattle.bins.specs.Bins.{readings}
use Rattle.bins.specs.loops.Ladder.{landing}
use Rattle.reading_imprints.proofs.tree.SearchTree.land_rows.Given as goal

abbrev pub invariant-loop-i : goal.invariant-loop-i
invariant-loop-i l = (length l.landings ≡ length l.initial.landings) × (take l.i l.landings ≡ map (landing readings l.fn.self) (take l.i l.rows))
