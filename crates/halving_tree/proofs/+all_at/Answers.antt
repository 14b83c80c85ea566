-- `all_at` meets its contract. Assumes nothing.
use native.Mathlib.Omega.{arith}
use lib.ListN.{get_or}
use Prim.Native.Nat.{ℕ, ◌≤◌}
use Rattle.halving_tree.proofs.AskLaws as laws
use Rattle.halving_tree.proofs.+all_at.Goals as goal
use Rattle.halving_tree.proofs.+all_at.Goals.{In_default}

-- the tree is a split
two : (t : ℕ) → (c : In_default t) → 2 ≤ get_or c.args.words.now c.args.at.0 0
two t c = c.in_default.ensures

pub offset_bounds-words-at : goal.offset_bounds-words-at
offset_bounds-words-at t c = omega (arith, laws.in_words c.requires.0)

pub bounds-words-at : goal.bounds-words-at
bounds-words-at t c = omega (arith, laws.in_words c.requires.0)

pub returns-in-Some : goal.returns-in-Some
returns-in-Some t c = laws.says_leaf c.requires.0 c.in-Some.inside c.in-Some.ensures c.requires.1

pub parted-requires : goal.parted-requires
parted-requires t c = laws.half_pos c.requires.0 (two t (goal.at.parted-requires t c).In_default)

pub all_at-requires : goal.all_at-requires
all_at-requires t c =
    let two = two t (goal.at.all_at-requires t c).In_default in
    let o = c.requires.1 in
    (omega (arith, laws.positive c.requires.0 two), (laws.go_left c.requires.0 two c.parted.ensures.lin, laws.some_left c.requires.0 two c.parted.ensures o (omega (arith, c.if-keys-half.true))))

pub returns-then-keys-half : goal.returns-then-keys-half
returns-then-keys-half t c =
    let two = two t (goal.at.returns-then-keys-half t c).In_default in
    laws.says_left c.requires.0 two c.parted.ensures c.if-keys-half.true c.all_at.result c.all_at.ensures

pub all_at-requires-then-half-keys : goal.all_at-requires-then-half-keys
all_at-requires-then-half-keys t c =
    let two = two t (goal.at.all_at-requires-then-half-keys t c).In_default in
    let o = c.requires.1 in
    (omega (arith, laws.positive c.requires.0 two), (laws.go_right c.requires.0 two (laws.upper_in c.requires.0 two c.parted.ensures), laws.some_right c.requires.0 two c.parted.ensures o (omega (arith, c.if-keys-half.false))))

pub returns-then-half-keys : goal.returns-then-half-keys
returns-then-half-keys t c =
    let two = two t (goal.at.returns-then-half-keys t c).In_default in
    laws.says_right c.requires.0 two c.parted.ensures c.if-half-keys.true c.all_at-then-half-keys.result c.all_at-then-half-keys.ensures

pub all_at-requires-2 : goal.all_at-requires-2
all_at-requires-2 t c =
    let two = two t (goal.at.all_at-requires-2 t c).In_default in
    (omega (arith, laws.positive c.requires.0 two), (laws.go_left c.requires.0 two c.parted.ensures.lin, laws.some_left c.requires.0 two c.parted.ensures c.requires.1 (omega (arith, c.if-half-keys.false))))

pub all_at-requires-then-all_at : goal.all_at-requires-then-all_at
all_at-requires-then-all_at t c =
    let two = two t (goal.at.all_at-requires-then-all_at t c).In_default in
    (omega (arith, laws.positive c.requires.0 two), (laws.go_right c.requires.0 two (laws.upper_in c.requires.0 two c.parted.ensures), laws.some_right c.requires.0 two c.parted.ensures c.requires.1 (omega (arith, c.if-keys-half.false))))

pub returns-then-all_at : goal.returns-then-all_at
returns-then-all_at t c =
    let two = two t (goal.at.returns-then-all_at t c).In_default in
    laws.says_both c.requires.0 two c.parted.ensures c.all_at-2.result c.all_at-then-all_at.result c.if-all_at.true c.all_at-2.ensures c.all_at-then-all_at.ensures

pub returns-else-all_at : goal.returns-else-all_at
returns-else-all_at t c =
    let two = two t (goal.at.returns-else-all_at t c).In_default in
    laws.says_lower c.requires.0 two c.parted.ensures c.all_at-2.result c.if-all_at.false c.all_at-2.ensures
