-- Lines that a packing goes on with, as the program holds them. Assumes nothing.
use Rattle.std.specs.Prelude.{ℕ, List}
use Rattle.bins.specs.Bins.{readings}
use Rattle.dictionary.specs.declared.packing.Lengths.{Lengths}
use Rattle.dictionary.specs.loops.Packer.{kept_then, words_then}
use Rattle.column_index.specs.Extended.{imprints_from}
use Rattle.reading_lines.specs.declared.LinesToPack.{LinesToPack}

-- their imprints
abbrev pub to_pack : LinesToPack → List ℕ
to_pack l = imprints_from readings l.borders.now l.column.now l.first.0

-- how long the packing becomes
abbrev pub needed : LinesToPack → Lengths
needed l = record { imprints = kept_then readings.full l.before (to_pack l); dictionary = words_then readings.full l.before (to_pack l) }
