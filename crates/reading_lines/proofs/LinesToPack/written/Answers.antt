-- `reading_lines::LinesToPack::written` meets its contract: the loop keeps `Writing` over the imprints from line i on. Assumes nothing.
use Prim.Native.Nat.{◌+◌}
use mathlib.Core.Path.{◌≡◌, ◌∙◌}
use mathlib.Core.List.{[]}
use native.Mathlib.Omega.{arith}
use Rattle.bins.specs.Bins.{readings}
use Rattle.dictionary.specs.loops.Packer.{after, move_on}
use Rattle.dictionary.proofs.PackLoops.{Measuring, Writing}
use Rattle.column_index.specs.Extended.{imprints_from}
use Rattle.column_index.proofs.ColumnLaws.{column_measures, column_writes, column_written}
use Rattle.reading_lines.specs.loops.ToPack.{to_pack, needed}
use Rattle.reading_lines.proofs.LinesToPack.written.Goals as goal
use Rattle.reading_lines.proofs.LinesToPack.written.Goals.{After-imprint_at-imprint, After-loop-i}

-- after one more line
one_more : (c : After-imprint_at-imprint) → Measuring readings.full c.args.self.now.before (to_pack c.args.self.now) (after c.loop-i.packer (move_on readings.full c.loop-i.packer.state c.imprint_at-imprint.result)) (imprints_from readings c.args.self.now.borders.now c.args.self.now.column.now (c.loop-i.i + 1))
one_more c =
    let s = c.args.self.now in
    let l = c.loop-i in
    column_measures readings s.borders.now s.column.now s.before s.first.0 l.packer l.i c.imprint_at-imprint.result (rw c.of-tree.ensures at c.imprint_at-imprint.ensures) (omega (arith, c.line_count-lines.ensures, c.loop-i-test.true)) l.invariant.measured

-- after the last
all : (c : After-loop-i) → Writing readings.full c.args.self.now.before (to_pack c.args.self.now) c.args.imprints.now c.args.dictionary.now c.loop-i.packer [] c.loop-i.imprints c.loop-i.dictionary
all c =
    let s = c.args.self.now in
    let l = c.loop-i in
    column_written readings s.borders.now s.column.now s.before s.first.0 l.packer l.i (omega (arith, c.line_count-lines.ensures, c.loop-i-test.false)) c.args.imprints.now c.args.dictionary.now l.imprints l.dictionary l.invariant

pub pushed-packer-requires-clause-imprint_in_bounds : goal.pushed-packer-requires-clause-imprint_in_bounds
pushed-packer-requires-clause-imprint_in_bounds c = omega (arith, (one_more (goal.at.pushed-packer-requires-clause-imprint_in_bounds c).After-imprint_at-imprint).of_words, c.requires.dictionary_has_room, c.loop-i.invariant.long_dict)

pub pushed-packer-requires-clause-imprint_in_bounds_2 : goal.pushed-packer-requires-clause-imprint_in_bounds_2
pushed-packer-requires-clause-imprint_in_bounds_2 c = omega (arith, (one_more (goal.at.pushed-packer-requires-clause-imprint_in_bounds_2 c).After-imprint_at-imprint).of_kept, c.requires.imprints_have_room, c.loop-i.invariant.long_imps)

pub loop-i-preserved : goal.loop-i-preserved
loop-i-preserved c =
    let s = c.args.self.now in
    let l = c.loop-i in
    let y = c.imprint_at-imprint in
    let e = c.pushed-packer.ensures in
    rw e.value (column_writes readings s.borders.now s.column.now s.before s.first.0 l.packer l.i y.result (rw c.of-tree.ensures at y.ensures) (omega (arith, c.line_count-lines.ensures, c.loop-i-test.true)) c.args.imprints.now c.args.dictionary.now l.imprints l.dictionary l.invariant c.pushed-packer.new.imprints c.pushed-packer.new.dictionary e.imprints_after e.dictionary_after)

pub closed-requires-clause-state_in_bounds : goal.closed-requires-clause-state_in_bounds
closed-requires-clause-state_in_bounds c =
    let w = all (goal.at.closed-requires-clause-state_in_bounds c).After-loop-i in
    omega (arith, w.measured.of_words, c.requires.dictionary_has_room, w.long_dict)

pub returns : goal.returns
returns c =
    let w = all (goal.at.returns c).After-loop-i in
    let i : c.loop-i.packer.kept ≡ (needed c.args.self.now).imprints = omega (arith, w.measured.of_kept) in
    let d : c.ends.result ≡ (needed c.args.self.now).dictionary = c.ends.ensures ∙ w.measured.of_words in
    record { imprints_after = w.to_imps; dictionary_after = c.closed.ensures ∙ w.to_dict; lengths = λ j. record { imprints = i j; dictionary = d j } }
