-- `after` meets its contract. Assumes nothing.
use Rattle.halving_tree.proofs.Subtree.+after.Given as goal

abbrev pub decreases-after : goal.decreases-after
decreases-after l = l.self.levels
