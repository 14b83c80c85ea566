-- `leaf_of` meets its contract. Assumes nothing.
use Rattle.halving_tree.specs.loops.Place.{word_of}
use Rattle.halving_tree.proofs.LeafLaws as laws
use Rattle.halving_tree.proofs.AskLaws as ask
use native.Mathlib.Omega.{arith}
use Prim.Native.Nat.{ℕ, ◌≤◌}
use Rattle.halving_tree.proofs.Subtree.+leaf_of.Goals as goal
use Rattle.halving_tree.proofs.Subtree.+leaf_of.Goals.{Else-word-lt2}

-- the tree is a split
two : (t : ℕ) → (c : Else-word-lt2 t) → 2 ≤ word_of c.args.self
two t c = omega (arith, c.word.ensures, c.if-word-lt2.false)

pub word-requires : goal.word-requires
word-requires t c = ask.in_words c.requires

pub returns-then-word-lt2-clause-by_index : goal.returns-then-word-lt2-clause-by_index
returns-then-word-lt2-clause-by_index t c = laws.whole_holds c.requires (omega (arith, c.word.ensures, c.if-word-lt2.true))

pub leaf_of-requires : goal.leaf_of-requires
leaf_of-requires t c =
    let two = two t (goal.at.leaf_of-requires t c).Else-word-lt2 in
    rw c.left.ensures (omega (arith, ask.positive c.requires two), ask.go_left c.requires two c.if-key-half.true)

pub returns-then-key-half-clause-by_index : goal.returns-then-key-half-clause-by_index
returns-then-key-half-clause-by_index t c =
    let two = two t (goal.at.returns-then-key-half-clause-by_index t c).Else-word-lt2 in
    laws.left_holds c.requires two c.if-key-half.true (rw c.left.ensures at c.leaf_of.ensures.by_index)

pub right-requires : goal.right-requires
right-requires t c = ask.is_split c.requires (two t (goal.at.right-requires t c).Else-word-lt2)

pub leaf_of-requires-2 : goal.leaf_of-requires-2
leaf_of-requires-2 t c =
    let two = two t (goal.at.leaf_of-requires-2 t c).Else-word-lt2 in
    rw c.right.ensures (omega (arith, ask.positive c.requires two), ask.go_right c.requires two (ask.high_in c.requires two))

pub shifted-requires : goal.shifted-requires
shifted-requires t c =
    let low = rw c.right.ensures at c.leaf_of-2.ensures.lo_lt_span in
    let high = rw c.right.ensures at c.leaf_of-2.ensures.hi_lt_span in
    omega (arith, low, high, c.ranges.self)

pub returns-clause-by_index : goal.returns-clause-by_index
returns-clause-by_index t c =
    let two = two t (goal.at.returns-clause-by_index t c).Else-word-lt2 in
    rw c.shifted.ensures (laws.right_holds c.requires two c.if-key-half.false (rw c.right.ensures at c.leaf_of-2.ensures.by_index))
