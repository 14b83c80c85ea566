-- `reading_search::rows::RangeSearch::fill_all` meets its contract: the loop keeps `Filling`. Assumes nothing.
use Prim.Native.Nat.{ℕ, ◌+◌}
use mathlib.Core.Path.{ap, ◌∙◌}
use mathlib.Core.List.{List}
use native.Mathlib.Omega.{arith}
use lib.ListN.{length, get_or, length-drop}
use lib.Seq.{sets}
use Rattle.words.proofs.ListLaws.{part_from}
use Rattle.bins.specs.Bins.{readings}
use Rattle.dictionary.specs.loops.Entries.{lines_in}
use Rattle.run_search.specs.loops.Runs.{through}
use Rattle.reading_search.specs.loops.Ask.{asked_of}
use Rattle.run_search.proofs.EntryLaws.{going_next}
use Rattle.run_search.proofs.FillLaws.{filling_next, filling_room}
use Rattle.reading_search.proofs.rows.RangeSearch.fill_all.Goals as goal

pub fill_entry-at-requires : goal.fill_entry-at-requires
fill_entry-at-requires c =
    let a = c.args in
    let l = c.loop-d in
    let t = c.loop-d-test.true in
    let q = asked_of a.self.now.ask in
    let col = a.self.now.column.now in
    let x = going_next a.dictionary.now a.imprints.now l.d-index l.used l.line l.invariant.going t in
    let p = part_from a.imprints.now l.used in
    let d = get_or a.dictionary.now l.d-index 0 in
    let r = filling_room readings q col a.dictionary.now a.imprints.now a.rows.now l.d-index l.used l.line l.rows l.at l.invariant t c.requires.2 in
    (omega (arith, r, ap (λ (m : List ℕ). length (through readings q col l.line (lines_in d m)).ids) p), omega (arith, x.in_lines, c.requires.1), omega (arith, x.has_imprints, ap length p, length-drop l.used a.imprints.now))

pub loop-d-preserved : goal.loop-d-preserved
loop-d-preserved c =
    let a = c.args in
    let l = c.loop-d in
    let q = asked_of a.self.now.ask in
    let col = a.self.now.column.now in
    let d = get_or a.dictionary.now l.d-index 0 in
    let p = ap (λ (m : List ℕ). (through readings q col l.line (lines_in d m)).ids) (part_from a.imprints.now l.used) in
    let f = c.fill_entry-at in
    rw (c.used-used.ensures, c.count_of.ensures) (filling_next readings q col a.dictionary.now a.imprints.now a.rows.now l.d-index l.used l.line l.rows l.at l.invariant c.loop-d-test.true f.new.rows (f.ensures.0 ∙ ap (sets l.rows l.at) p) f.result (f.ensures.1 ∙ ap (λ (m : List ℕ). l.at + length m) p))
