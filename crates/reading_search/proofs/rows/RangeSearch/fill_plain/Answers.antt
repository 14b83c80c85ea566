-- `reading_search::rows::RangeSearch::fill_plain` meets its contract. Assumes nothing.
use Prim.Native.Nat.{◌+◌}
use mathlib.Core.Path.{ap}
use native.Mathlib.Omega.{arith}
use lib.ListN.{length, drop, get_or, length-append}
use Rattle.bins.specs.Bins.{readings}
use Rattle.run_search.specs.loops.Runs.{through, run_at}
use Rattle.reading_search.specs.loops.Ask.{asked_of}
use Rattle.run_search.proofs.FillLaws.{listing_next, lines_ids}
use Rattle.reading_search.proofs.rows.RangeSearch.fill_plain.Goals as goal

pub fill_run-n-requires : goal.fill_run-n-requires
fill_run-n-requires c =
    let a = c.args in
    let l = c.loop-i in
    let q = asked_of a.self.now.ask in
    let col = a.self.now.column.now in
    let is = a.imprints.now in
    let one = (run_at readings q col (get_or is l.i 0) (a.line.0 + l.i) 1).ids in
    let more = (through readings q col (a.line.0 + (l.i + 1)) (drop (l.i + 1) is)).ids in
    (omega (arith, c.requires.0, l.invariant.room, l.invariant.long, ap length (lines_ids readings q col a.line.0 is l.i c.loop-i-test.true), length-append one more), omega (arith, c.requires.1, c.loop-i-test.true))

pub loop-i-preserved : goal.loop-i-preserved
loop-i-preserved c =
    let a = c.args in
    let l = c.loop-i in
    let q = asked_of a.self.now.ask in
    let col = a.self.now.column.now in
    let is = a.imprints.now in
    let e = c.fill_run-n.ensures in
    listing_next a.rows.now a.at (through readings q col a.line.0 is).ids l.rows l.n (through readings q col (a.line.0 + l.i) (drop l.i is)).ids l.invariant (run_at readings q col (get_or is l.i 0) (a.line.0 + l.i) 1).ids (through readings q col (a.line.0 + (l.i + 1)) (drop (l.i + 1) is)).ids (lines_ids readings q col a.line.0 is l.i c.loop-i-test.true) c.fill_run-n.new.rows e.0 c.fill_run-n.result e.1
