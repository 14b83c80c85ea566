-- `reading_index::Index::checked_lines` meets its contract. Assumes nothing.
use Prim.Native.Nat.{ℕ}
use mathlib.Core.Path.{◌≡◌, sym, ap, ◌∙◌}
use mathlib.Core.Bool.{true, false}
use native.Mathlib.Omega.{arith}
use Rattle.bins.specs.Bins.{readings, good_borders, bins}
use Rattle.dictionary.specs.Dictionary.{accepted}
use Rattle.column_index.proofs.AnswerLaws.{good_few}
use Rattle.column_index.proofs.CheckLaws.{lines_tested, lines_bad_borders}
use Rattle.reading_index.proofs.Index.checked_lines.Goals as goal
use Rattle.reading_index.proofs.Index.checked_lines.Goals.{After-accepted, Else-not-good_borders}

-- the borders are good
good : (c : Else-not-good_borders) → good_borders c.args.self.now.borders.now ≡ true
good c = sym c.good_borders.ensures ∙ c.if-not-good_borders.false

-- the test is by the number of bins
tested : (c : After-accepted) → accepted readings.full (bins c.args.self.now.borders.now) c.args.lines c.args.self.now.dictionary.now c.args.self.now.imprints.now ≡ c.accepted.result
tested c =
    let a = c.args in
    sym (c.accepted.ensures ∙ ap (λ (n : ℕ). accepted readings.full n a.lines a.self.now.dictionary.now a.self.now.imprints.now) c.bin_count-n.ensures)

pub returns-then-not-good_borders : goal.returns-then-not-good_borders
returns-then-not-good_borders c = let a = c.args in lines_bad_borders readings a.lines a.self.now.borders.now a.self.now.imprints.now a.self.now.dictionary.now (sym c.good_borders.ensures ∙ c.if-not-good_borders.true)

pub bin_count-n-requires : goal.bin_count-n-requires
bin_count-n-requires c = good_few c.args.self.now.borders.now (good (goal.at.bin_count-n-requires c).Else-not-good_borders)

pub accepted-requires : goal.accepted-requires
accepted-requires c = omega (arith, c.bin_count-n.ensures, good_few c.args.self.now.borders.now (good (goal.at.accepted-requires c).Else-not-good_borders))

pub returns-then-not-accepted : goal.returns-then-not-accepted
returns-then-not-accepted c =
    let a = c.args in
    let at = goal.at.returns-then-not-accepted c in
    lines_tested readings a.lines a.self.now.borders.now a.self.now.imprints.now a.self.now.dictionary.now true false (good at.Else-not-good_borders) (tested at.After-accepted ∙ c.if-not-accepted.true)

pub returns : goal.returns
returns c =
    let a = c.args in
    let at = goal.at.returns c in
    lines_tested readings a.lines a.self.now.borders.now a.self.now.imprints.now a.self.now.dictionary.now true true (good at.Else-not-good_borders) (tested at.After-accepted ∙ c.if-not-accepted.false)
