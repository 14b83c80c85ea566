-- The tree that a filter's words lay out. Assumes nothing.
use Rattle.std.specs.Prelude.{List, ℕ, ◌^◌}
use denote.Ref.{Bor}
use Rattle.halving_tree.specs.declared.Subtree.{Subtree}

-- the tree of so many levels that these words lay out after the header
abbrev pub laid_tree : Bor (List ℕ) → ℕ → Subtree
laid_tree w k = record { words = w; at = record { 0 = 3 }; levels = k; span = 2 ^ k }
