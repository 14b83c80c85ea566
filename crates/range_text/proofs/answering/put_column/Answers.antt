-- `range_text::answering::put_column` meets its contract: build has room for the index of 8,192 rows. Assumes nothing.
use mathlib.Core.Path.{refl, sym}
use native.Mathlib.Omega.{arith}
use lib.Seq.{length-take-le}
use mir.Syntax.{w32}
use mir.ValLaws.{to_z-of_z}
use Rattle.decimal_text.proofs.PutsLaws.{puts_as}
use Rattle.range_text.specs.Text.{range_text}
use Rattle.range_text.proofs.AnswerLaws.{build_never, fronts_few, fronts_are}
use Rattle.range_text.proofs.answering.put_column.Goals as goal

pub slice_bounds-borders-end : goal.slice_bounds-borders-end
slice_bounds-borders-end c = let f = c.build-built in omega (arith, (fronts_few c.requires.0 refl refl refl f.ensures c.in-Ok.made c.in-Ok.is).0, f.auto.borders)

pub slice_bounds-index-end : goal.slice_bounds-index-end
slice_bounds-index-end c =
    let f = c.build-built in
    sym (length-take-le c.in-Ok.made.borders f.new.borders (omega (arith, (fronts_few c.requires.0 refl refl refl f.ensures c.in-Ok.made c.in-Ok.is).0, f.auto.borders)))

pub slice_bounds-imprints-end : goal.slice_bounds-imprints-end
slice_bounds-imprints-end c = let f = c.build-built in omega (arith, (fronts_few c.requires.0 refl refl refl f.ensures c.in-Ok.made c.in-Ok.is).1, f.auto.imprints)

pub slice_bounds-index-end-2 : goal.slice_bounds-index-end-2
slice_bounds-index-end-2 c =
    let f = c.build-built in
    sym (length-take-le c.in-Ok.made.imprints f.new.imprints (omega (arith, (fronts_few c.requires.0 refl refl refl f.ensures c.in-Ok.made c.in-Ok.is).1, f.auto.imprints)))

pub slice_bounds-dictionary-end : goal.slice_bounds-dictionary-end
slice_bounds-dictionary-end c = let f = c.build-built in omega (arith, (fronts_few c.requires.0 refl refl refl f.ensures c.in-Ok.made c.in-Ok.is).2, f.auto.dictionary)

pub slice_bounds-index-end-3 : goal.slice_bounds-index-end-3
slice_bounds-index-end-3 c =
    let f = c.build-built in
    sym (length-take-le c.in-Ok.made.dictionary f.new.dictionary (omega (arith, (fronts_few c.requires.0 refl refl refl f.ensures c.in-Ok.made c.in-Ok.is).2, f.auto.dictionary)))

pub put_searched-requires : goal.put_searched-requires
put_searched-requires c =
    let p = fronts_are c.requires.0 refl refl refl c.build-built.ensures c.in-Ok.made c.in-Ok.is in
    record { column_len_bound = c.requires; borders_value = p.borders_front; imprints_value = p.imprints_front; dictionary_value = p.dictionary_front }

pub unreachable-requires : goal.unreachable-requires
unreachable-requires c = build_never c.requires.0 refl refl refl c.build-built.ensures c.in_default.is

pub returns : goal.returns
returns c =
    let a = c.args in
    let l = to_z-of_z w32 a.low c.ranges.low in
    let h = to_z-of_z w32 a.high c.ranges.high in
    puts_as (range_text a.column.now a.low a.high) (λ j. range_text a.column.now (l j) (h j)) c.put_searched.ensures
