-- `leaf_of` meets its contract. Assumes nothing.
use Rattle.halving_tree.proofs.Subtree.+leaf_of.Given as goal

abbrev pub decreases-leaf_of : goal.decreases-leaf_of
decreases-leaf_of l = l.self.levels
