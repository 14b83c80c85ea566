-- `reading_index::Index::search` meets its contract: each answer by the checks that led to it. Assumes nothing.
use Prim.Native.Nat.{◌≤◌}
use mathlib.Core.Path.{◌≡◌, refl, sym, ap, ap₂, ◌∙◌}
use lib.Dec.{lit<}
use lib.IntN.{suc_ℤ}
use lib.ListN.{length}
use lib.Signed.{lt_z}
use mir.Syntax.{w32}
use mir.Val.{to_z, of_z}
use mir.ValLaws.{to_z-of_z}
use Rattle.std.specs.Prelude.{Ok}
use Rattle.std.proofs.lemmas.Result.{err_from_is_err_and}
use Rattle.bins.specs.Bins.{readings}
use Rattle.bins.specs.Masks.{mask, inner}
use Rattle.bins.proofs.MaskLaws.{before}
use Rattle.column_index.specs.Promise.{checked_answer}
use Rattle.column_index.proofs.AnswerLaws.{good_few}
use Rattle.column_index.proofs.CallLaws.{checked_passed, answered_refused, answered_order, answered_found, passed_lines}
use Rattle.reading_index.proofs.Index.search.Goals as goal
use Rattle.reading_index.proofs.Index.search.Goals.{In_ok-checked}

-- the check passed
fine : (c : In_ok-checked) → checked_answer readings c.args.column.now c.args.self.now.borders.now c.args.self.now.imprints.now c.args.self.now.dictionary.now ≡ Ok tt
fine c = sym c.checked.ensures ∙ c.in_ok-checked.was

few : (c : In_ok-checked) → length c.args.self.now.borders.now ≤ 63
few c = good_few c.args.self.now.borders.now (checked_passed readings c.args.column.now c.args.self.now.borders.now c.args.self.now.imprints.now c.args.self.now.dictionary.now (fine c)).good

-- the test of the ends, as the definition has it
test : (c : In_ok-checked) → lt_z (to_z w32 (of_z w32 c.args.high)) (to_z w32 (of_z w32 c.args.low)) ≡ lt_z c.args.high c.args.low
test c = ap₂ lt_z (to_z-of_z w32 c.args.high c.ranges.high) (to_z-of_z w32 c.args.low c.ranges.low)

pub returns-in_err-checked : goal.returns-in_err-checked
returns-in_err-checked c =
    let a = c.args in
    let e = err_from_is_err_and c.from_residual.result c.from_residual.ensures.1 in
    rw (e.1, e.2) (answered_refused readings a.column.now a.self.now.borders.now a.self.now.imprints.now a.self.now.dictionary.now a.low a.high a.rows.now (sym c.checked.ensures ∙ c.in_err-checked.was))

pub returns-then-high-low : goal.returns-then-high-low
returns-then-high-low c =
    let a = c.args in
    let at = goal.at.returns-then-high-low c in
    record { answers = answered_order readings a.column.now a.self.now.borders.now a.self.now.imprints.now a.self.now.dictionary.now a.low a.high a.rows.now (fine at.In_ok-checked) (sym (test at.In_ok-checked) ∙ c.if-high-low.true); rows_after = refl }

pub range_mask-requires : goal.range_mask-requires
range_mask-requires c = few (goal.at.range_mask-requires c).In_ok-checked

pub inner_mask-requires : goal.inner_mask-requires
inner_mask-requires c = few (goal.at.inner_mask-requires c).In_ok-checked

pub invariant_of-find : goal.invariant_of-find
invariant_of-find c = let a = c.args in record { few_rows = (passed_lines readings (lit< tt) a.column.now a.self.now.borders.now a.self.now.imprints.now a.self.now.dictionary.now (fine (goal.at.invariant_of-find c).In_ok-checked)).2 }

pub find-requires : goal.find-requires
find-requires c =
    let a = c.args in
    let l = passed_lines readings (lit< tt) a.column.now a.self.now.borders.now a.self.now.imprints.now a.self.now.dictionary.now (fine (goal.at.find-requires c).In_ok-checked) in
    (l.0, l.1)

pub returns : goal.returns
returns c =
    let a = c.args in
    let at = goal.at.returns c in
    let l = to_z-of_z w32 a.low c.ranges.low in
    let h = to_z-of_z w32 a.high c.ranges.high in
    let m = c.range_mask.ensures ∙ ap₂ (mask readings a.self.now.borders.now) l h in
    let n = c.inner_mask.ensures ∙ ap₂ (inner readings a.self.now.borders.now) l h in
    let v = c.value_before in
    let b = to_z-of_z w32 v.result (record { sfits = v.type_inv }) ∙ v.ensures ∙ ap (before readings) l in
    let f = c.find in
    answered_found readings a.column.now a.self.now.borders.now a.self.now.imprints.now a.self.now.dictionary.now a.low a.high a.rows.now (lit< tt) (fine at.In_ok-checked) (sym (test at.In_ok-checked) ∙ c.if-high-low.false) _ (λ i. record { low = suc_ℤ (b i); high = h i; bin_count = 64; masked = m i; inner_masked = n i }) f.result f.new.rows f.ensures.answers f.ensures.rows_after
