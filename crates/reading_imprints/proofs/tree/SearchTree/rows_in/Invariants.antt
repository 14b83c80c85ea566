-- `reading_imprints::tree::SearchTree.rows_in` meets its contract. Assumes nothing.
use Prim.Native.Nat.{◌≤◌, ◌+◌}
use mathlib.Core.Path.{◌≡◌}
use mathlib.Core.List.{map}
use lib.ListN.{drop}
use Rattle.words.specs.Lists.{times}
use Rattle.bins.specs.Bins.{readings, bin}
use Rattle.reading_imprints.proofs.tree.SearchTree.rows_in.Given as goal

-- how many there are: those counted, and those among the rows that are left
abbrev pub invariant-loop-row : goal.invariant-loop-row
invariant-loop-row l = (l.n ≤ l.row-index) × (l.n + times l.b (map (bin readings l.fn.self) (drop l.row-index l.rows)) ≡ times l.b (map (bin readings l.fn.self) l.rows))
