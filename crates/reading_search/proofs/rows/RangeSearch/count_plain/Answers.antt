-- `reading_search::rows::RangeSearch::count_plain` meets its contract: the tally so far, and the lines that are left, are all the lines. Assumes nothing.
use Prim.Native.Nat.{◌+◌}
use mathlib.Core.Path.{◌≡◌, sym, ap, ◌∙◌}
use native.Mathlib.Omega.{arith}
use lib.ListN.{drop, get_or}
use Rattle.bins.specs.Bins.{readings}
use Rattle.run_search.specs.loops.Runs.{through, run_at, plus}
use Rattle.reading_search.specs.loops.Ask.{asked_of}
use Rattle.run_search.proofs.RunLaws.{plus_then, run_at_within, values_length}
use Rattle.run_search.proofs.EntryLaws.{lines_turn}
use Rattle.reading_search.proofs.rows.RangeSearch.count_plain.Goals as goal

pub loop-i-preserved : goal.loop-i-preserved
loop-i-preserved c =
    let a = c.args in
    let l = c.loop-i in
    let q = asked_of a.self.now.ask in
    let col = a.self.now.column.now in
    let w = get_or a.imprints.now l.i 0 in
    let at = a.line.0 + l.i in
    let next = a.line.0 + (l.i + 1) in
    let rest = through readings q col next (drop (l.i + 1) a.imprints.now) in
    let e : at + 1 ≡ next = omega arith in
    rw c.count_run-so_far.ensures (rw e at (run_at_within readings q col l.so_far w at 1 l.invariant.0 (values_length readings col at 1)), plus_then l.so_far (run_at readings q col w at 1) rest ∙ ap (plus l.so_far) (sym (lines_turn readings q col a.line.0 a.imprints.now l.i c.loop-i-test.true)) ∙ l.invariant.1)
