-- `reading_units::Payload::fill_units` meets its contract: the units still to come fix every byte, and those put so far change no word. Assumes nothing.
use Prim.Native.Nat.{◌+◌, ◌*◌}
use mathlib.Core.Path.{◌≡◌}
use lib.ListN.{drop}
use lib.Seq.{sets}
use Rattle.reading_units.specs.loops.Lays.{payload_of, padded}
use Rattle.reading_units.proofs.TurnLaws.{Laying}
use Rattle.reading_units.proofs.Payload.fill_units.Given as goal

abbrev pub invariant-loop-i : goal.invariant-loop-i
invariant-loop-i l =
    (l.first ≡ 124 * l.n)
    × (sets l.block (12 + 4 * l.i) (drop (4 * l.i) (padded l.n (payload_of l.self))) ≡ sets l.initial.block 12 (padded l.n (payload_of l.self)))
    × Laying (496 * l.n) (padded l.n (payload_of l.self)) l.i l.self.borders.now l.self.imprints.now l.self.dictionary.now l.self.borders.now l.self.imprints.now l.self.dictionary.now
