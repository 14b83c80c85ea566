-- `reading_lines::LinesToPack::measured` meets its contract: the loop keeps `Measuring` over the imprints from line i on. Assumes nothing.
use Rattle.bins.specs.Bins.{readings}
use Rattle.dictionary.proofs.PackLoops.{Measuring}
use Rattle.column_index.specs.Extended.{imprints_from}
use Rattle.reading_lines.specs.loops.ToPack.{to_pack}
use Rattle.reading_lines.proofs.LinesToPack.measured.Given as goal

abbrev pub invariant-loop-i : goal.invariant-loop-i
invariant-loop-i l = Measuring readings.full l.self.before (to_pack l.self) l.packer (imprints_from readings l.self.borders.now l.self.column.now l.i)
