-- `halves` meets its contract. Assumes nothing.
use Rattle.halving_tree.specs.loops.Place.{word_of}
use Rattle.halving_tree.proofs.FormLaws as laws
use native.Mathlib.Omega.{arith}
use Prim.Native.Nat.{◌≤◌}
use Rattle.halving_tree.proofs.Subtree.halves.Goals as goal
use Rattle.halving_tree.proofs.Subtree.halves.Goals.{Else-word-lt2}

-- the tree is a split
two : (c : Else-word-lt2) → 2 ≤ word_of c.args.self
two c = omega (arith, c.word-word.ensures, c.if-word-lt2.false)

pub word-word-requires : goal.word-word-requires
word-word-requires c = laws.sub_in c.requires

pub returns-then-word-lt2-clause-halved : goal.returns-then-word-lt2-clause-halved
returns-then-word-lt2-clause-halved c =
    rw c.lowered-half.ensures (laws.halved_leaf c.requires (omega (arith, c.word-word.ensures, c.if-word-lt2.true)))

pub right-requires : goal.right-requires
right-requires c = laws.sub_split c.requires (two (goal.at.right-requires c).Else-word-lt2)

pub overflow_add-result : goal.overflow_add-result
overflow_add-result c =
    omega (arith, laws.node_room c.requires (two (goal.at.overflow_add-result c).Else-word-lt2), laws.sub_in c.requires)

pub overflow_sub-result-2 : goal.overflow_sub-result-2
overflow_sub-result-2 c =
    omega (arith, c.word-word.ensures, laws.node_room c.requires (two (goal.at.overflow_sub-result-2 c).Else-word-lt2), laws.sub_in c.requires)

pub returns-clause-halved : goal.returns-clause-halved
returns-clause-halved c =
    rw (c.left.ensures, c.right.ensures, c.word-word.ensures) (laws.halved_node c.requires (two (goal.at.returns-clause-halved c).Else-word-lt2))
