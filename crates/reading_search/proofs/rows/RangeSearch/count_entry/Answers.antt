-- `reading_search::rows::RangeSearch::count_entry` meets its contract: a repeat entry is one run, a plain one its imprints. Assumes nothing.
use mathlib.Core.Path.{sym, ap, ◌∙◌}
use lib.ListN.{get_or}
use Rattle.bins.specs.Bins.{readings}
use Rattle.dictionary.specs.Dictionary.{count_of}
use Rattle.run_search.specs.loops.Runs.{through, plus}
use Rattle.reading_search.specs.loops.Ask.{asked_of}
use Rattle.run_search.proofs.RunLaws.{through_run}
use Rattle.run_search.proofs.EntryLaws.{lines_repeat}
use Rattle.reading_search.proofs.rows.RangeSearch.count_entry.Goals as goal

pub returns-then-is_repeat : goal.returns-then-is_repeat
returns-then-is_repeat c =
    let a = c.args in
    let q = asked_of a.self.now.ask in
    let col = a.self.now.column.now in
    c.count_run.ensures
    ∙ rw c.count_of-n.ensures (ap (plus a.t) (sym (through_run readings col q (get_or a.imprints.now 0 0) (count_of a.d) a.line.0) ∙ ap (through readings q col a.line.0) (sym (lines_repeat a.d a.imprints.now (sym c.is_repeat.ensures ∙ c.if-is_repeat.true)))))
