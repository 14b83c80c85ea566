-- `reading_index::Index::find` meets its contract. Assumes nothing.
use mathlib.Core.Path.{refl, ◌∙◌}
use native.Mathlib.Omega.{arith}
use lib.ListN.{length}
use Rattle.words.proofs.ListLaws.{sets_filled}
use Rattle.bins.specs.Bins.{readings}
use Rattle.dictionary.specs.Dictionary.{unpack}
use Rattle.run_search.specs.Search.{Answer}
use Rattle.run_search.specs.loops.Runs.{through}
use Rattle.reading_search.specs.loops.Ask.{asked_of}
use Rattle.column_index.proofs.CallLaws.{rows_counted, room_short, room_done}
use Rattle.reading_index.proofs.Index.find.Goals as goal
use Rattle.reading_index.proofs.Index.find.Goals.{Start}

-- the answer that is counted
abbrev all : Start → Answer
all s = through readings (asked_of s.args.search.now.ask) s.args.search.now.column.now 0 (unpack s.args.self.now.dictionary.now s.args.self.now.imprints.now)

pub returns-then-rows-tally : goal.returns-then-rows-tally
returns-then-rows-tally c =
    let t = c.count_all-tally in
    record { answers = room_short (all (goal.at.returns-then-rows-tally c).Start) t.result t.ensures (length c.args.rows.now) c.if-rows-tally.true; rows_after = refl }

pub fill_all-requires : goal.fill_all-requires
fill_all-requires c =
    let t = c.count_all-tally in
    (c.requires.0, c.requires.1, omega (arith, rows_counted (all (goal.at.fill_all-requires c).Start) t.result t.ensures (length c.args.rows.now), c.if-rows-tally.false))

pub returns : goal.returns
returns c =
    let t = c.count_all-tally in
    let a = all (goal.at.returns c).Start in
    let rows = c.args.rows.now in
    record { answers = room_done a t.result t.ensures (length rows) c.if-rows-tally.false; rows_after = c.fill_all.ensures ∙ sets_filled a.ids rows (omega (arith, rows_counted a t.result t.ensures (length rows), c.if-rows-tally.false)) }
