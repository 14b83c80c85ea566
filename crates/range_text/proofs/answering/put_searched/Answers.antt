-- `range_text::answering::put_searched` meets its contract: with a column's own index only 0 and 1 can arise. Assumes nothing.
use mathlib.Core.Path.{refl, sym}
use native.Mathlib.Omega.{arith}
use lib.Seq.{length-take-le}
use mir.Syntax.{w32}
use mir.ValLaws.{to_z-of_z}
use Rattle.decimal_text.proofs.PutsLaws.{puts_as, refused_fits}
use Rattle.range_text.specs.Text.{range_text}
use Rattle.range_text.proofs.AnswerLaws.{low_text, count_few, text_is, text_room}
use Rattle.range_text.proofs.answering.put_searched.Goals as goal

pub slice_bounds-rows-end : goal.slice_bounds-rows-end
slice_bounds-rows-end c =
    let a = c.args in
    let q = c.requires in
    let f = c.search in
    omega (arith, count_few q.column_len_bound.0 refl q.borders_value q.imprints_value q.dictionary_value (to_z-of_z w32 a.low c.ranges.low) (to_z-of_z w32 a.high c.ranges.high) f.ensures c.in-Ok.tally c.in-Ok.is, f.auto.rows)

pub slice_bounds-put_found-end : goal.slice_bounds-put_found-end
slice_bounds-put_found-end c =
    let a = c.args in
    let q = c.requires in
    let f = c.search in
    sym (length-take-le c.in-Ok.tally.rows f.new.rows (omega (arith, count_few q.column_len_bound.0 refl q.borders_value q.imprints_value q.dictionary_value (to_z-of_z w32 a.low c.ranges.low) (to_z-of_z w32 a.high c.ranges.high) f.ensures c.in-Ok.tally c.in-Ok.is, f.auto.rows)))

pub put_found-requires : goal.put_found-requires
put_found-requires c =
    let a = c.args in
    let q = c.requires in
    (q.column_len_bound.0, text_room q.column_len_bound.0 refl q.borders_value q.imprints_value q.dictionary_value (to_z-of_z w32 a.low c.ranges.low) (to_z-of_z w32 a.high c.ranges.high) c.search.ensures c.in-Ok.tally c.in-Ok.is a.text.now q.column_len_bound.1)

pub refused-requires : goal.refused-requires
refused-requires c = refused_fits c.args.text.now _ (omega arith) (omega (arith, c.requires.column_len_bound.1))

pub returns-in-Ok : goal.returns-in-Ok
returns-in-Ok c =
    let a = c.args in
    let q = c.requires in
    puts_as (range_text a.column.now a.low a.high) (text_is q.column_len_bound.0 refl q.borders_value q.imprints_value q.dictionary_value (to_z-of_z w32 a.low c.ranges.low) (to_z-of_z w32 a.high c.ranges.high) c.search.ensures c.in-Ok.tally c.in-Ok.is) c.put_found.ensures

pub returns-in-Err : goal.returns-in-Err
returns-in-Err c =
    let a = c.args in
    let q = c.requires in
    puts_as (range_text a.column.now a.low a.high) (low_text q.column_len_bound.0 refl q.borders_value q.imprints_value q.dictionary_value (to_z-of_z w32 a.low c.ranges.low) (to_z-of_z w32 a.high c.ranges.high) c.search.ensures c.in-Err.is) c.refused.ensures
