-- `put` meets its contract. Assumes nothing.
use Rattle.halving_tree.proofs.PutLaws as laws
use Rattle.halving_tree.proofs.AfterLaws as after
use native.Mathlib.Omega.{arith}
use Prim.Native.Nat.{ℕ}
use Rattle.halving_tree.proofs.Subtree.+put.Goals as goal
use Rattle.halving_tree.proofs.Subtree.+put.Goals.{After-parted}

-- the descent to the halves
down :
    (t : ℕ) → (c : After-parted t) →
    let h = c.halves-split.result in
    let r = c.parted.result in
    after.Down c.requires.spot c.args.keys.low h.left.at.0 h.left_size h.right.at.0 h.right_size r.0.low r.0.high r.1.low r.1.high
down t c = record { deep = laws.deep c.requires (laws.one_form c.requires) (laws.form_apart c.requires c.if-keys.false c.turns_leaf.result c.if-turns_leaf.false c.turns_leaf.ensures); halved = c.halves-split.ensures.halved; cut = c.parted.ensures }

pub copy-requires : goal.copy-requires
copy-requires t c = laws.none_room c.requires c.if-keys.true

pub returns-then-keys : goal.returns-then-keys
returns-then-keys t c = laws.none_wrote c.requires c.if-keys.true c.copy.ensures

pub turns_leaf-requires : goal.turns_leaf-requires
turns_leaf-requires t c = (laws.as_place c.requires, c.if-keys.false)

pub returns-then-turns_leaf : goal.returns-then-turns_leaf
returns-then-turns_leaf t c =
    laws.leaf_wrote c.requires c.turns_leaf.result c.if-turns_leaf.true c.turns_leaf.ensures c.put_leaf.ensures.0 c.put_leaf.ensures.1

pub halves-split-requires : goal.halves-split-requires
halves-split-requires t c = after.as_sub c.requires.spot (laws.deep c.requires (laws.one_form c.requires) (laws.form_apart c.requires c.if-keys.false c.turns_leaf.result c.if-turns_leaf.false c.turns_leaf.ensures))

pub parted-requires : goal.parted-requires
parted-requires t c = after.half_pos c.requires.spot (laws.deep c.requires (laws.one_form c.requires) (laws.form_apart c.requires c.if-keys.false c.turns_leaf.result c.if-turns_leaf.false c.turns_leaf.ensures))

pub put-next-requires : goal.put-next-requires
put-next-requires t c =
    let d = down t (goal.at.put-next-requires t c).After-parted in
    rw c.halves-split.ensures.left (omega arith, laws.left_fill c.requires (laws.one_form c.requires) (laws.form_apart c.requires c.if-keys.false c.turns_leaf.result c.if-turns_leaf.false c.turns_leaf.ensures) d)

pub put_split-requires : goal.put_split-requires
put_split-requires t c =
    let d = down t (goal.at.put_split-requires t c).After-parted in
    laws.split_room c.requires (laws.one_form c.requires) (laws.form_apart c.requires c.if-keys.false c.turns_leaf.result c.if-turns_leaf.false c.turns_leaf.ensures) d (rw c.halves-split.ensures.left at c.put-next.ensures) c.put-next.auto.out

pub put-requires : goal.put-requires
put-requires t c =
    let d = down t (goal.at.put-requires t c).After-parted in
    let h = c.halves-split.ensures in
    rw h.right (omega arith, laws.right_fill c.requires (laws.one_form c.requires) (laws.form_apart c.requires c.if-keys.false c.turns_leaf.result c.if-turns_leaf.false c.turns_leaf.ensures) d (rw h.left at c.put-next.ensures) c.put-next.auto.out c.put_split.ensures)

pub returns : goal.returns
returns t c =
    let d = down t (goal.at.returns t c).After-parted in
    let h = c.halves-split.ensures in
    laws.node_wrote c.requires (laws.one_form c.requires) (laws.form_apart c.requires c.if-keys.false c.turns_leaf.result c.if-turns_leaf.false c.turns_leaf.ensures) d (rw h.left at c.put-next.ensures) c.put-next.auto.out c.put_split.ensures (rw h.right at c.put.ensures)
