-- `reading_lines::LinesToPack::pack` meets its contract: a packing gains at most a word a line. Assumes nothing.
use Prim.Native.Nat.{◌≤◌}
use mathlib.Core.Path.{ap}
use native.Mathlib.Omega.{arith}
use lib.ListN.{length}
use Rattle.bins.specs.Bins.{readings}
use Rattle.dictionary.specs.declared.packing.Lengths.{Lengths}
use Rattle.column_index.proofs.ColumnLaws.{lines_from}
use Rattle.column_index.proofs.GoingLaws.{on_filled}
use Rattle.reading_lines.specs.loops.ToPack.{to_pack, needed}
use Rattle.reading_lines.proofs.LinesToPack.pack.Goals as goal
use Rattle.reading_lines.proofs.LinesToPack.pack.Goals.{Else-dictionary-told}

-- both spaces have room for a word more a line
roomy : (c : Else-dictionary-told) → ((needed c.args.self.now).imprints ≤ length c.args.imprints.now) × ((needed c.args.self.now).dictionary ≤ length c.args.dictionary.now)
roomy c =
    let s = c.args.self.now in
    let f = lines_from readings s.borders.now s.column.now s.first.0 in
    let n = c.line_count.ensures in
    let t = c.requires.told_in_spaces in
    (omega (arith, c.requires.imprints_gained, f, n, t, c.if-imprints-told.false), omega (arith, c.requires.dictionary_gained, f, n, t, c.if-dictionary-told.false))

pub measured_and_written-requires : goal.measured_and_written-requires
measured_and_written-requires c =
    let s = c.args.self.now in
    let f = lines_from readings s.borders.now s.column.now s.first.0 in
    let t = c.requires.told_in_spaces in
    record { imprints_fit = omega (arith, c.requires.imprints_gained, f, s.few_rows, t); dictionary_fits = omega (arith, c.requires.dictionary_gained, f, s.few_rows, t) }

pub written-requires : goal.written-requires
written-requires c =
    let r = roomy (goal.at.written-requires c).Else-dictionary-told in
    record { imprints_have_room = r.0; dictionary_has_room = r.1 }

pub returns : goal.returns
returns c =
    let s = c.args.self.now in
    let r = roomy (goal.at.returns c).Else-dictionary-told in
    let e = c.written.ensures in
    let i = ap (λ (l : Lengths). l.imprints) e.lengths in
    let d = ap (λ (l : Lengths). l.dictionary) e.lengths in
    on_filled readings.full s.before (to_pack s) c.args.imprints.now c.args.dictionary.now c.written.result i d (omega (arith, i, r.0)) (omega (arith, d, r.1)) _ _ e.imprints_after e.dictionary_after
