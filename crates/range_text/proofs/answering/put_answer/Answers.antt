-- `range_text::answering::put_answer` meets its contract. Assumes nothing.
use Prim.Native.Nat.{ℕ, ◌<◌}
use mathlib.Core.Path.{sym, ◌∙◌, ap}
use native.Mathlib.Omega.{arith}
use lib.ListN.{get_or}
use lib.Seq.{length-take-le}
use mir.Syntax.{w32}
use mir.Val.{to_z, of_z}
use mir.ValLaws.{to_z-of_z}
use Rattle.decimal_text.proofs.PutsLaws.{puts_as, refused_fits}
use Rattle.range_input.specs.Input.{low_of, high_of}
use Rattle.range_input.specs.declared.Range.{Range}
use Rattle.range_input.proofs.InputLaws.{was_unread, was_read, few_read, column_read, value_fits}
use Rattle.range_text.specs.Text.{range_text, text_of}
use Rattle.range_text.proofs.WritesLaws.{unread_text, read_text}
use Rattle.range_text.proofs.answering.put_answer.Goals as goal

pub slice_bounds-column-end : goal.slice_bounds-column-end
slice_bounds-column-end c = let f = c.decode in omega (arith, few_read f.ensures c.in-Some.range c.in-Some.is, f.auto.column)

pub slice_bounds-put_column-end : goal.slice_bounds-put_column-end
slice_bounds-put_column-end c =
    let f = c.decode in
    sym (length-take-le c.in-Some.range.rows f.new.column (omega (arith, few_read f.ensures c.in-Some.range c.in-Some.is, f.auto.column)))

pub put_column-requires : goal.put_column-requires
put_column-requires c =
    let f = c.decode in
    let n = few_read f.ensures c.in-Some.range c.in-Some.is in
    (omega (arith, n, length-take-le c.in-Some.range.rows f.new.column (omega (arith, n, f.auto.column))), c.requires)

pub refused-requires : goal.refused-requires
refused-requires c = refused_fits c.args.text.now _ (omega arith) (omega (arith, c.requires))

pub returns-in-None : goal.returns-in-None
returns-in-None c =
    let i = c.args.input.now in
    puts_as (text_of i) (unread_text i (was_unread c.decode.ensures c.in-None.is)) c.refused.ensures

pub returns-in-Some : goal.returns-in-Some
returns-in-Some c =
    let i = c.args.input.now in
    let f = c.decode in
    let w = was_read f.ensures c.in-Some.range c.in-Some.is in
    let b : (k : ℕ) → get_or i k 0 < 256 = λ k. (c.type_inv.input k).fits in
    let l = ap (λ (x : Range). to_z w32 (of_z w32 x.low)) w.1 ∙ to_z-of_z w32 (low_of i) (value_fits i 0 b) in
    let h = ap (λ (x : Range). to_z w32 (of_z w32 x.high)) w.1 ∙ to_z-of_z w32 (high_of i) (value_fits i 1 b) in
    let z = column_read f.ensures c.in-Some.range c.in-Some.is in
    puts_as (text_of i) ((λ j. range_text (z j) (l j) (h j)) ∙ read_text i w.0) c.put_column.ensures
