-- `turns_leaf` meets its contract. Assumes nothing.
use Rattle.halving_tree.proofs.Subtree.+turns_leaf.Given as goal

abbrev pub decreases-turns_leaf : goal.decreases-turns_leaf
decreases-turns_leaf l = l.self.levels
