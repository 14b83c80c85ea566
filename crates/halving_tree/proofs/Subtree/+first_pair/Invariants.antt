-- `first_pair` meets its contract. Assumes nothing.
use Rattle.halving_tree.proofs.Subtree.+first_pair.Given as goal

abbrev pub decreases-first_pair : goal.decreases-first_pair
decreases-first_pair l = l.self.levels
