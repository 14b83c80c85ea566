-- `put` meets its contract. Assumes nothing.
use Rattle.halving_tree.proofs.Subtree.+put.Given as goal

abbrev pub decreases-put : goal.decreases-put
decreases-put l = l.self.levels
