-- `reading_search::rows::RangeSearch::fill_run` meets its contract, fate by fate. Assumes nothing.
use Prim.Native.Nat.{ℕ, ◌*◌}
use mathlib.Core.Path.{sym, ap, ap₂, ◌∙◌}
use native.Mathlib.Omega.{arith}
use lib.Dec.{lit≤}
use lib.ListN.{length}
use lib.Seq.{sets}
use Rattle.words.specs.Lists.{from}
use Rattle.words.proofs.ListLaws.{length_from}
use Rattle.bins.specs.Bins.{readings}
use Rattle.run_search.specs.loops.Runs.{values}
use Rattle.reading_search.specs.loops.Ask.{asked_of}
use Rattle.run_search.proofs.FillLaws.{whole_ids, rows_end}
use Rattle.reading_search.proofs.rows.RangeSearch.fill_run.Goals as goal

pub fill_whole-requires : goal.fill_whole-requires
fill_whole-requires c =
    let a = c.args in
    let col = a.self.now.column.now in
    let e = ap length c.lines_of-part.ensures in
    let i = ap length (whole_ids readings (asked_of a.self.now.ask) col a.imprint a.line.0 a.n (sym c.fate_of.ensures ∙ c.in-Whole.is)) in
    let n = length (values readings col a.line.0 a.n) in
    (omega (arith, c.requires.0, e, i, length_from n (readings.per * a.line.0)), omega (arith, rows_end readings (lit≤ tt) col a.line.0 a.n (omega (arith, c.requires.1)) (omega (arith, a.self.now.few_rows)), e, c.first_row.ensures))

pub returns-in-Whole : goal.returns-in-Whole
returns-in-Whole c =
    let a = c.args in
    let col = a.self.now.column.now in
    let e = ap length c.lines_of-part.ensures in
    let i = whole_ids readings (asked_of a.self.now.ask) col a.imprint a.line.0 a.n (sym c.fate_of.ensures ∙ c.in-Whole.is) in
    let n = length (values readings col a.line.0 a.n) in
    (c.fill_whole.ensures ∙ ap₂ (λ (r m : ℕ). sets a.rows.now a.at (from r m)) c.first_row.ensures e ∙ ap (sets a.rows.now a.at) (sym i), omega (arith, e, ap length i, length_from n (readings.per * a.line.0)))
