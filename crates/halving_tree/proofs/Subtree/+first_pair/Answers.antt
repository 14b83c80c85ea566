-- `first_pair` meets its contract. Assumes nothing.
use Rattle.halving_tree.specs.loops.Place.{word_of}
use Rattle.halving_tree.proofs.ForgetLaws as laws
use Rattle.halving_tree.proofs.AskLaws as ask
use native.Mathlib.Omega.{arith}
use Prim.Native.Nat.{ℕ, ◌≤◌}
use Rattle.halving_tree.proofs.Subtree.+first_pair.Goals as goal
use Rattle.halving_tree.proofs.Subtree.+first_pair.Goals.{Else-word-lt2}

-- the tree is a split
two : (t : ℕ) → (c : Else-word-lt2 t) → 2 ≤ word_of c.args.self
two t c = omega (arith, c.word.ensures, c.if-word-lt2.false)

pub word-requires : goal.word-requires
word-requires t c = ask.in_words c.requires.0

pub returns-then-word-lt2-clause-by_index : goal.returns-then-word-lt2-clause-by_index
returns-then-word-lt2-clause-by_index t c = laws.first_leaf c.requires.0 c.args.from (omega (arith, c.word.ensures, c.if-word-lt2.true))

pub left-lower-requires : goal.left-lower-requires
left-lower-requires t c = ask.is_split c.requires.0 (two t c)

pub right-upper-requires : goal.right-upper-requires
right-upper-requires t c = ask.is_split c.requires.0 (two t (goal.at.right-upper-requires t c).Else-word-lt2)

pub pair_here-requires : goal.pair_here-requires
pair_here-requires t c =
    rw (c.left-lower.ensures, c.right-upper.ensures) (laws.halves_in c.requires.0 (two t (goal.at.pair_here-requires t c).Else-word-lt2))

pub returns-in-Some-clause-by_index : goal.returns-in-Some-clause-by_index
returns-in-Some-clause-by_index t c =
    let two = two t (goal.at.returns-in-Some-clause-by_index t c).Else-word-lt2 in
    laws.first_here c.requires.0 two c.args.from (rw (c.left-lower.ensures, c.right-upper.ensures) at c.in-Some.ensures)

pub returns-in-Some-clause-below : goal.returns-in-Some-clause-below
returns-in-Some-clause-below t c =
    let two = two t (goal.at.returns-in-Some-clause-below t c).Else-word-lt2 in
    laws.here_in c.requires.0 two c.args.from (rw (c.left-lower.ensures, c.right-upper.ensures) at c.in-Some.ensures)

pub first_pair-requires : goal.first_pair-requires
first_pair-requires t c =
    let here = c.requires.0 in
    let two = two t (goal.at.first_pair-requires t c).Else-word-lt2 in
    rw c.left-lower.ensures (omega (arith, ask.positive here two), (ask.go_left here two (ask.half_pos here two), omega (arith, c.requires.1)))

pub returns-in-Some-first_pair-clause-by_index : goal.returns-in-Some-first_pair-clause-by_index
returns-in-Some-first_pair-clause-by_index t c =
    let two = two t (goal.at.returns-in-Some-first_pair-clause-by_index t c).Else-word-lt2 in
    let none = rw (c.left-lower.ensures, c.right-upper.ensures) at c.in_default.ensures in
    laws.first_left c.requires.0 two c.args.from none (rw c.left-lower.ensures at c.in-Some-first_pair.ensures.by_index)

pub first_pair-requires-2 : goal.first_pair-requires-2
first_pair-requires-2 t c =
    let here = c.requires.0 in
    let two = two t (goal.at.first_pair-requires-2 t c).Else-word-lt2 in
    rw c.right-upper.ensures (omega (arith, ask.positive here two), (ask.go_right here two (ask.half_pos here two), omega (arith, c.requires.1)))

pub returns-in_err-right-clause-by_index : goal.returns-in_err-right-clause-by_index
returns-in_err-right-clause-by_index t c =
    let two = two t (goal.at.returns-in_err-right-clause-by_index t c).Else-word-lt2 in
    let none = rw (c.left-lower.ensures, c.right-upper.ensures) at c.in_default.ensures in
    let left = rw c.left-lower.ensures at c.in_default-first_pair.ensures.by_index in
    let right = rw c.right-upper.ensures at c.in_err-right.ensures.by_index in
    rw c.from_residual.ensures (laws.first_right c.requires.0 two c.args.from none left c.saturating_sub.ensures right)

pub returns-clause-by_index : goal.returns-clause-by_index
returns-clause-by_index t c =
    let two = two t (goal.at.returns-clause-by_index t c).Else-word-lt2 in
    let none = rw (c.left-lower.ensures, c.right-upper.ensures) at c.in_default.ensures in
    let left = rw c.left-lower.ensures at c.in_default-first_pair.ensures.by_index in
    let right = rw c.right-upper.ensures at c.in_ok-right.ensures.by_index in
    rw c.shifted.ensures (laws.first_right c.requires.0 two c.args.from none left c.saturating_sub.ensures right)
