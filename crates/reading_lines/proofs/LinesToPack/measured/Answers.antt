-- `reading_lines::LinesToPack::measured` meets its contract: the loop keeps `Measuring` over the imprints from line i on. Assumes nothing.
use Prim.Native.Nat.{◌+◌}
use mathlib.Core.Path.{◌≡◌, ◌∙◌}
use mathlib.Core.List.{[]}
use native.Mathlib.Omega.{arith}
use Rattle.bins.specs.Bins.{readings}
use Rattle.dictionary.specs.loops.Packer.{after, move_on}
use Rattle.dictionary.proofs.PackLoops.{Measuring}
use Rattle.column_index.specs.Extended.{imprints_from}
use Rattle.column_index.proofs.ColumnLaws.{column_measures, column_measured}
use Rattle.reading_lines.specs.loops.ToPack.{to_pack, needed}
use Rattle.reading_lines.proofs.LinesToPack.measured.Goals as goal
use Rattle.reading_lines.proofs.LinesToPack.measured.Goals.{After-imprint_at-imprint, After-loop-i}

-- after one more line
one_more : (c : After-imprint_at-imprint) → Measuring readings.full c.args.self.now.before (to_pack c.args.self.now) (after c.loop-i.packer (move_on readings.full c.loop-i.packer.state c.imprint_at-imprint.result)) (imprints_from readings c.args.self.now.borders.now c.args.self.now.column.now (c.loop-i.i + 1))
one_more c =
    let s = c.args.self.now in
    let l = c.loop-i in
    column_measures readings s.borders.now s.column.now s.before s.first.0 l.packer l.i c.imprint_at-imprint.result (rw c.of-tree.ensures at c.imprint_at-imprint.ensures) (omega (arith, c.line_count-lines.ensures, c.loop-i-test.true)) l.invariant

-- after the last
all : (c : After-loop-i) → Measuring readings.full c.args.self.now.before (to_pack c.args.self.now) c.loop-i.packer []
all c =
    let s = c.args.self.now in
    let l = c.loop-i in
    column_measured readings s.borders.now s.column.now s.before s.first.0 l.packer l.i (omega (arith, c.line_count-lines.ensures, c.loop-i-test.false)) l.invariant

pub counted-packer-requires-clause-imprint_bound : goal.counted-packer-requires-clause-imprint_bound
counted-packer-requires-clause-imprint_bound c = omega (arith, (one_more c).of_words, c.requires.dictionary_fits)

pub counted-packer-requires-clause-imprint_bound_2 : goal.counted-packer-requires-clause-imprint_bound_2
counted-packer-requires-clause-imprint_bound_2 c = omega (arith, (one_more c).of_kept, c.requires.imprints_fit)

pub loop-i-preserved : goal.loop-i-preserved
loop-i-preserved c = rw c.counted-packer.ensures (one_more (goal.at.loop-i-preserved c).After-imprint_at-imprint)

pub ends-requires-clause-state_bound : goal.ends-requires-clause-state_bound
ends-requires-clause-state_bound c = omega (arith, (all c).of_words, c.requires.dictionary_fits)

pub returns : goal.returns
returns c =
    let m = all (goal.at.returns c).After-loop-i in
    let i : c.loop-i.packer.kept ≡ (needed c.args.self.now).imprints = omega (arith, m.of_kept) in
    let d : c.ends.result ≡ (needed c.args.self.now).dictionary = c.ends.ensures ∙ m.of_words in
    λ j. record { imprints = i j; dictionary = d j }
