-- `turns_leaf` meets its contract. Assumes nothing.
use Rattle.halving_tree.specs.loops.Place.{word_of}
use Rattle.halving_tree.proofs.AskLaws as ask
use Rattle.halving_tree.proofs.TurnsLaws as laws
use native.Mathlib.Omega.{arith}
use mathlib.Core.Path.{sym, ◌∙◌}
use Prim.Native.Nat.{ℕ, ◌≤◌}
use Rattle.halving_tree.proofs.Subtree.+turns_leaf.Goals as goal
use Rattle.halving_tree.proofs.Subtree.+turns_leaf.Goals.{In_default}

-- the tree is a split
two : (t : ℕ) → (c : In_default t) → 2 ≤ word_of c.args.self
two t c = omega (arith, c.word.ensures, c.in_default.ensures)

pub returns-then-high-low : goal.returns-then-high-low
returns-then-high-low t c =
    λ D h. laws.whole_leaf c.requires.0 c.args.inside c.args.keys.low c.requires.1 c.if-high-low.true D

pub word-requires : goal.word-requires
word-requires t c =
    ask.in_words c.requires.0

pub returns-in-Some : goal.returns-in-Some
returns-in-Some t c =
    laws.was_leaf c.requires.0 c.args.inside c.args.keys.low c.requires.1 c.if-high-low.false c.in-Some.was (sym c.word.ensures ∙ c.in-Some.ensures)

pub parted-requires : goal.parted-requires
parted-requires t c =
    let two = two t (goal.at.parted-requires t c).In_default in
    ask.half_pos c.requires.0 two

pub right-requires : goal.right-requires
right-requires t c =
    let two = two t (goal.at.right-requires t c).In_default in
    ask.is_split c.requires.0 two

pub word-requires-then-high-half : goal.word-requires-then-high-half
word-requires-then-high-half t c =
    let two = two t (goal.at.word-requires-then-high-half t c).In_default in
    rw c.right.ensures (ask.in_words (ask.go_right c.requires.0 two (ask.upper_in c.requires.0 two c.parted.ensures)))

pub left-requires : goal.left-requires
left-requires t c =
    let two = two t (goal.at.left-requires t c).In_default in
    ask.is_split c.requires.0 two

pub turns_leaf-requires : goal.turns_leaf-requires
turns_leaf-requires t c =
    let two = two t (goal.at.turns_leaf-requires t c).In_default in
    let o = c.requires.1 in
    rw c.left.ensures (omega (arith, ask.positive c.requires.0 two), (ask.go_left c.requires.0 two c.parted.ensures.lin, ask.some_left c.requires.0 two c.parted.ensures c.requires.1 (omega (arith, c.if-high-half.true))))

pub returns-then-word-from : goal.returns-then-word-from
returns-then-word-from t c =
    let two = two t (goal.at.returns-then-word-from t c).In_default in
    let w = rw c.right.ensures at c.word-then-high-half.ensures in
    laws.lower_turns c.requires.0 c.args.inside c.args.keys.low c.requires.1 two c.parted.ensures c.if-high-half.true (sym w ∙ c.if-word-from.true ∙ c.from.ensures ∙ laws.leaf_number c.args.inside) c.turns_leaf.result (rw c.left.ensures at c.turns_leaf.ensures)

pub returns-else-word-from : goal.returns-else-word-from
returns-else-word-from t c =
    let two = two t (goal.at.returns-else-word-from t c).In_default in
    let w = rw c.right.ensures at c.word-then-high-half.ensures in
    λ D h. laws.not_said c.word-then-high-half.result c.from.result c.if-word-from.false (laws.upper_apart c.requires.0 c.args.inside c.args.keys.low c.requires.1 two c.parted.ensures c.if-high-half.true (λ e. c.if-word-from.false (w ∙ e ∙ sym (c.from.ensures ∙ laws.leaf_number c.args.inside))) D h)

pub word-requires-then-half-low : goal.word-requires-then-half-low
word-requires-then-half-low t c =
    let two = two t (goal.at.word-requires-then-half-low t c).In_default in
    rw c.left-then-half-low.ensures (ask.in_words (ask.go_left c.requires.0 two c.parted.ensures.lin))

pub turns_leaf-requires-then-word-from-2 : goal.turns_leaf-requires-then-word-from-2
turns_leaf-requires-then-word-from-2 t c =
    let two = two t (goal.at.turns_leaf-requires-then-word-from-2 t c).In_default in
    let o = c.requires.1 in
    rw c.right-then-word-from-2.ensures (omega (arith, ask.positive c.requires.0 two), (ask.go_right c.requires.0 two (ask.upper_in c.requires.0 two c.parted.ensures), ask.some_right c.requires.0 two c.parted.ensures c.requires.1 (omega (arith, c.if-high-half.false))))

pub returns-then-word-from-2 : goal.returns-then-word-from-2
returns-then-word-from-2 t c =
    let two = two t (goal.at.returns-then-word-from-2 t c).In_default in
    let w = rw c.left-then-half-low.ensures at c.word-then-half-low.ensures in
    laws.upper_turns c.requires.0 c.args.inside c.args.keys.low c.requires.1 two c.parted.ensures c.if-half-low.true (sym w ∙ c.if-word-from-2.true ∙ c.from-then-half-low.ensures ∙ laws.leaf_number c.args.inside) c.turns_leaf-then-word-from-2.result (rw c.right-then-word-from-2.ensures at c.turns_leaf-then-word-from-2.ensures)

pub returns-else-word-from-2 : goal.returns-else-word-from-2
returns-else-word-from-2 t c =
    let two = two t (goal.at.returns-else-word-from-2 t c).In_default in
    let w = rw c.left-then-half-low.ensures at c.word-then-half-low.ensures in
    λ D h. laws.not_said c.word-then-half-low.result c.from-then-half-low.result c.if-word-from-2.false (laws.lower_apart c.requires.0 c.args.inside c.args.keys.low c.requires.1 two c.parted.ensures c.if-half-low.true (λ e. c.if-word-from-2.false (w ∙ e ∙ sym (c.from-then-half-low.ensures ∙ laws.leaf_number c.args.inside))) D h)

pub turns_leaf-requires-2 : goal.turns_leaf-requires-2
turns_leaf-requires-2 t c =
    let two = two t (goal.at.turns_leaf-requires-2 t c).In_default in
    rw c.left-2.ensures (omega (arith, ask.positive c.requires.0 two), (ask.go_left c.requires.0 two c.parted.ensures.lin, ask.some_left c.requires.0 two c.parted.ensures c.requires.1 (omega (arith, c.if-half-low.false))))

pub turns_leaf-requires-then-turns_leaf : goal.turns_leaf-requires-then-turns_leaf
turns_leaf-requires-then-turns_leaf t c =
    let two = two t (goal.at.turns_leaf-requires-then-turns_leaf t c).In_default in
    rw c.right-then-turns_leaf.ensures (omega (arith, ask.positive c.requires.0 two), (ask.go_right c.requires.0 two (ask.upper_in c.requires.0 two c.parted.ensures), ask.some_right c.requires.0 two c.parted.ensures c.requires.1 (omega (arith, c.if-high-half.false))))

pub returns-then-turns_leaf : goal.returns-then-turns_leaf
returns-then-turns_leaf t c =
    let two = two t (goal.at.returns-then-turns_leaf t c).In_default in
    laws.both_turn c.requires.0 c.args.inside c.args.keys.low c.requires.1 two c.parted.ensures c.turns_leaf-2.result c.turns_leaf-then-turns_leaf.result c.if-turns_leaf.true (rw c.left-2.ensures at c.turns_leaf-2.ensures) (rw c.right-then-turns_leaf.ensures at c.turns_leaf-then-turns_leaf.ensures)

pub returns-else-turns_leaf : goal.returns-else-turns_leaf
returns-else-turns_leaf t c =
    let two = two t (goal.at.returns-else-turns_leaf t c).In_default in
    laws.left_stays c.requires.0 c.args.inside c.args.keys.low c.requires.1 two c.parted.ensures c.turns_leaf-2.result c.if-turns_leaf.false (rw c.left-2.ensures at c.turns_leaf-2.ensures)
