-- `reading_search::rows::RangeSearch::fill_all` meets its contract: the loop keeps `Filling`. Assumes nothing.
use Rattle.bins.specs.Bins.{readings}
use Rattle.reading_search.specs.loops.Ask.{asked_of}
use Rattle.run_search.proofs.FillLaws.{Filling}
use Rattle.reading_search.proofs.rows.RangeSearch.fill_all.Given as goal

abbrev pub invariant-loop-d : goal.invariant-loop-d
invariant-loop-d l = Filling readings (asked_of l.self.ask) l.self.column.now l.dictionary l.imprints l.initial.rows l.d-index l.used l.line l.rows l.at
