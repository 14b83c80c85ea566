-- `reading_search::rows::RangeSearch::count_all` meets its contract: the loop keeps `Counting`. Assumes nothing.
use Prim.Native.Nat.{ℕ}
use mathlib.Core.Path.{ap, ◌∙◌}
use mathlib.Core.List.{List}
use lib.ListN.{get_or}
use Rattle.words.proofs.ListLaws.{part_from}
use Rattle.bins.specs.Bins.{readings}
use Rattle.dictionary.specs.loops.Entries.{lines_in}
use Rattle.run_search.specs.loops.Runs.{through, plus}
use Rattle.reading_search.specs.loops.Ask.{asked_of}
use Rattle.run_search.proofs.EntryLaws.{counting_next}
use Rattle.reading_search.proofs.rows.RangeSearch.count_all.Goals as goal

pub loop-d-preserved : goal.loop-d-preserved
loop-d-preserved c =
    let a = c.args in
    let l = c.loop-d in
    let q = asked_of a.self.now.ask in
    let col = a.self.now.column.now in
    let is = a.imprints.now in
    let d = get_or a.dictionary.now l.d-index 0 in
    rw (c.used-used.ensures, c.count_of.ensures) (counting_next readings q col a.dictionary.now is l.d-index l.used l.line l.so_far l.invariant c.loop-d-test.true c.count_entry-so_far.result (c.count_entry-so_far.ensures ∙ ap (λ (m : List ℕ). plus l.so_far (through readings q col l.line (lines_in d m))) (part_from is l.used)))
