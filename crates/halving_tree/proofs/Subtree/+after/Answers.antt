-- `after` meets its contract. Assumes nothing.
use Rattle.halving_tree.specs.loops.Form.{form_of}
use Rattle.halving_tree.proofs.AfterLaws as laws
use mathlib.Core.Path.{ap, sym}
use native.Mathlib.Omega.{arith}
use Prim.Native.Nat.{ℕ}
use Rattle.halving_tree.proofs.Subtree.+after.Goals as goal
use Rattle.halving_tree.proofs.Subtree.+after.Goals.{After-parted}

-- the descent to the halves
down :
    (t : ℕ) → (c : After-parted t) →
    let h = c.halves-split.result in
    let r = c.parted.result in
    laws.Down c.requires c.args.keys.low h.left.at.0 h.left_size h.right.at.0 h.right_size r.0.low r.0.high r.1.low r.1.high
down t c = record { deep = laws.deep c.requires c.args.keys.low c.if-high-low.false c.if-high-low-2.false; halved = c.halves-split.ensures.halved; cut = c.parted.ensures }

pub form-requires : goal.form-requires
form-requires t c = laws.as_laid c.requires

pub returns-then-high-low-2 : goal.returns-then-high-low-2
returns-then-high-low-2 t c =
    λ D h. sym (ap form_of (laws.whole_tree c.requires c.args.keys.low c.if-high-low.false c.if-high-low-2.true c.args.inside D))

pub after-left-requires : goal.after-left-requires
after-left-requires t c =
    let d = down t (goal.at.after-left-requires t c).After-parted in
    rw c.halves-split.ensures.left (omega arith, laws.left_spot c.requires d)

pub form-requires-then-high-half : goal.form-requires-then-high-half
form-requires-then-high-half t c =
    let d = down t (goal.at.form-requires-then-high-half t c).After-parted in
    rw c.halves-split.ensures.right (laws.as_laid (laws.right_spot c.requires d))

pub joined-requires : goal.joined-requires
joined-requires t c =
    let d = down t (goal.at.joined-requires t c).After-parted in
    let h = c.halves-split.ensures in
    laws.joined_room c.requires d c.args.inside (rw h.left at c.after-left.ensures) (laws.right_kept c.requires d c.if-high-half.true c.args.inside (rw h.right at c.form-then-high-half.ensures))

pub returns-then-high-half : goal.returns-then-high-half
returns-then-high-half t c =
    let d = down t (goal.at.returns-then-high-half t c).After-parted in
    let h = c.halves-split.ensures in
    laws.joined_is c.requires d c.args.inside (rw h.left at c.after-left.ensures) (laws.right_kept c.requires d c.if-high-half.true c.args.inside (rw h.right at c.form-then-high-half.ensures)) c.joined.ensures

pub after-right-requires : goal.after-right-requires
after-right-requires t c =
    let d = down t (goal.at.after-right-requires t c).After-parted in
    rw c.halves-split.ensures.right (omega arith, laws.right_spot c.requires d)

pub form-requires-then-half-low : goal.form-requires-then-half-low
form-requires-then-half-low t c =
    let d = down t (goal.at.form-requires-then-half-low t c).After-parted in
    rw c.halves-split.ensures.left (laws.as_laid (laws.left_spot c.requires d))

pub joined-requires-then-half-low : goal.joined-requires-then-half-low
joined-requires-then-half-low t c =
    let d = down t (goal.at.joined-requires-then-half-low t c).After-parted in
    let h = c.halves-split.ensures in
    laws.joined_room c.requires d c.args.inside (laws.left_kept c.requires d c.if-half-low.true c.args.inside (rw h.left at c.form-then-half-low.ensures)) (rw h.right at c.after-right.ensures)

pub returns-then-half-low : goal.returns-then-half-low
returns-then-half-low t c =
    let d = down t (goal.at.returns-then-half-low t c).After-parted in
    let h = c.halves-split.ensures in
    laws.joined_is c.requires d c.args.inside (laws.left_kept c.requires d c.if-half-low.true c.args.inside (rw h.left at c.form-then-half-low.ensures)) (rw h.right at c.after-right.ensures) c.joined-then-half-low.ensures

pub after-left-requires-2 : goal.after-left-requires-2
after-left-requires-2 t c =
    let d = down t (goal.at.after-left-requires-2 t c).After-parted in
    rw c.halves-split.ensures.left (omega arith, laws.left_spot c.requires d)

pub after-right-requires-2 : goal.after-right-requires-2
after-right-requires-2 t c =
    let d = down t (goal.at.after-right-requires-2 t c).After-parted in
    rw c.halves-split.ensures.right (omega arith, laws.right_spot c.requires d)

pub joined-requires-2 : goal.joined-requires-2
joined-requires-2 t c =
    let d = down t (goal.at.joined-requires-2 t c).After-parted in
    let h = c.halves-split.ensures in
    laws.joined_room c.requires d c.args.inside (rw h.left at c.after-left-2.ensures) (rw h.right at c.after-right-2.ensures)

pub returns : goal.returns
returns t c =
    let d = down t (goal.at.returns t c).After-parted in
    let h = c.halves-split.ensures in
    laws.joined_is c.requires d c.args.inside (rw h.left at c.after-left-2.ensures) (rw h.right at c.after-right-2.ensures) c.joined-2.ensures
