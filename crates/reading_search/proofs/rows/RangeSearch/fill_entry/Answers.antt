-- `reading_search::rows::RangeSearch::fill_entry` meets its contract: a repeat entry is one run, a plain one its imprints. Assumes nothing.
use Prim.Native.Nat.{ℕ, ◌+◌}
use mathlib.Core.Path.{◌≡◌, sym, ap, ◌∙◌}
use mathlib.Core.List.{List}
use native.Mathlib.Omega.{arith}
use lib.ListN.{length, get_or}
use lib.Seq.{sets}
use Rattle.bins.specs.Bins.{readings}
use Rattle.dictionary.specs.Dictionary.{count_of}
use Rattle.run_search.specs.Search.{Answer}
use Rattle.dictionary.specs.loops.Entries.{lines_in}
use Rattle.run_search.specs.loops.Runs.{through, run_at}
use Rattle.reading_search.specs.loops.Ask.{asked_of}
use Rattle.run_search.proofs.RunLaws.{through_run}
use Rattle.run_search.proofs.EntryLaws.{lines_repeat}
use Rattle.reading_search.proofs.rows.RangeSearch.fill_entry.Goals as goal
use Rattle.reading_search.proofs.rows.RangeSearch.fill_entry.Goals.{Then-is_repeat}

-- the lines of a repeat entry are one run
as_run : (c : Then-is_repeat) → run_at readings (asked_of c.args.self.now.ask) c.args.self.now.column.now (get_or c.args.imprints.now 0 0) c.args.line.0 c.count_of-n.result ≡ through readings (asked_of c.args.self.now.ask) c.args.self.now.column.now c.args.line.0 (lines_in c.args.d c.args.imprints.now)
as_run c =
    let a = c.args in
    let q = asked_of a.self.now.ask in
    let col = a.self.now.column.now in
    rw c.count_of-n.ensures (sym (through_run readings col q (get_or a.imprints.now 0 0) (count_of a.d) a.line.0) ∙ ap (through readings q col a.line.0) (sym (lines_repeat a.d a.imprints.now (sym c.is_repeat.ensures ∙ c.if-is_repeat.true))))

pub fill_run-requires : goal.fill_run-requires
fill_run-requires c =
    (omega (arith, c.requires.0, ap (λ (x : Answer). length x.ids) (as_run (goal.at.fill_run-requires c).Then-is_repeat)), omega (arith, c.requires.1, c.count_of-n.ensures))

pub returns-then-is_repeat : goal.returns-then-is_repeat
returns-then-is_repeat c =
    let a = c.args in
    let e = c.fill_run.ensures in
    let i = ap (λ (x : Answer). x.ids) (as_run (goal.at.returns-then-is_repeat c).Then-is_repeat) in
    (e.0 ∙ ap (sets a.rows.now a.at) i, e.1 ∙ ap (λ (l : List ℕ). a.at + length l) i)
