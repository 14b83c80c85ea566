use Rattle.halving_tree.proofs.+all_at.Given as goal

-- proposed from what the function passes where it calls itself
abbrev pub decreases-all_at : goal.decreases-all_at
decreases-all_at l = l.levels
