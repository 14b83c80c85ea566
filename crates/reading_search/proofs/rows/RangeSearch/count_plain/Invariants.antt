-- `reading_search::rows::RangeSearch::count_plain` meets its contract: the tally so far, and the lines that are left, are all the lines. Assumes nothing.
use Prim.Native.Nat.{◌+◌}
use mathlib.Core.Path.{◌≡◌}
use lib.ListN.{drop}
use Rattle.bins.specs.Bins.{readings}
use Rattle.run_search.specs.loops.Runs.{through, plus, Within}
use Rattle.reading_search.specs.loops.Ask.{asked_of}
use Rattle.reading_search.proofs.rows.RangeSearch.count_plain.Given as goal

abbrev pub invariant-loop-i : goal.invariant-loop-i
invariant-loop-i l =
    Within readings l.so_far (l.line.0 + l.i) × (plus l.so_far (through readings (asked_of l.self.ask) l.self.column.now (l.line.0 + l.i) (drop l.i l.imprints)) ≡ plus l.initial.so_far (through readings (asked_of l.self.ask) l.self.column.now l.line.0 l.imprints))
