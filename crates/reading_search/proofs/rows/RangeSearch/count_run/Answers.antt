-- `reading_search::rows::RangeSearch::count_run` meets its contract, fate by fate. Assumes nothing.
use mathlib.Core.Path.{sym, ap, ◌∙◌}
use mathlib.Core.List.{List}
use lib.ListN.{length}
use lib.IntN.{ℤ}
use Rattle.bins.specs.Bins.{readings}
use Rattle.run_search.specs.Search.{scan}
use Rattle.reading_search.specs.loops.Ask.{low_of, asked_of}
use Rattle.run_search.proofs.RunLaws.{whole_run, compared_run}
use Rattle.reading_search.proofs.rows.RangeSearch.count_run.Goals as goal

pub returns-in-Whole : goal.returns-in-Whole
returns-in-Whole c =
    let a = c.args in
    whole_run readings (asked_of a.self.now.ask) a.self.now.column.now a.t a.imprint a.line.0 a.n (length c.lines_of-part.result.now) (ap length c.lines_of-part.ensures) (sym c.fate_of.ensures ∙ c.in-Whole.is)

pub returns-in-Compared : goal.returns-in-Compared
returns-in-Compared c =
    let a = c.args in
    let q = a.self.now.ask in
    let e = c.lines_of-part.ensures in
    compared_run readings (asked_of q) a.self.now.column.now a.t a.imprint a.line.0 a.n c.count_matches.result (length c.lines_of-part.result.now) (c.count_matches.ensures ∙ ap (λ (l : List ℤ). length (scan readings (low_of q) q.high 0 l)) e) (ap length e) (sym c.fate_of.ensures ∙ c.in-Compared.is)
