-- `reading_search::rows::RangeSearch::fill_plain` meets its contract. Assumes nothing.
use Prim.Native.Nat.{◌+◌}
use lib.ListN.{drop}
use Rattle.bins.specs.Bins.{readings}
use Rattle.run_search.specs.loops.Runs.{through}
use Rattle.reading_search.specs.loops.Ask.{asked_of}
use Rattle.run_search.proofs.FillLaws.{Listing}
use Rattle.reading_search.proofs.rows.RangeSearch.fill_plain.Given as goal

abbrev pub invariant-loop-i : goal.invariant-loop-i
invariant-loop-i l =
    Listing l.initial.rows l.at (through readings (asked_of l.self.ask) l.self.column.now l.line.0 l.imprints).ids l.rows l.n (through readings (asked_of l.self.ask) l.self.column.now (l.line.0 + l.i) (drop l.i l.imprints)).ids
