-- `reading_search::rows::RangeSearch::count_all` meets its contract: the loop keeps `Counting`. Assumes nothing.
use Rattle.bins.specs.Bins.{readings}
use Rattle.reading_search.specs.loops.Ask.{asked_of}
use Rattle.run_search.proofs.EntryLaws.{Counting}
use Rattle.reading_search.proofs.rows.RangeSearch.count_all.Given as goal

abbrev pub invariant-loop-d : goal.invariant-loop-d
invariant-loop-d l = Counting readings (asked_of l.self.ask) l.self.column.now l.dictionary l.imprints l.d-index l.used l.line l.so_far
