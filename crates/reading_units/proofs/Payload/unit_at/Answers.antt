-- `reading_units::Payload::unit_at` meets its contract: where unit q lies, and what stands there. Assumes nothing.
use Prim.Native.Nat.{ℕ, ◌+◌, ◌-◌, ◌*◌, ◌%◌, ◌^◌, ◌<◌, ◌≤◌}
use mathlib.Core.Path.{◌≡◌, refl, ◌∙◌, ap}
use mathlib.Core.List.{List, [], ◌∷◌}
use native.Mathlib.Omega.{arith}
use lib.IntN.{pos}
use lib.ListN.{length, get_or}
use mir.Syntax.{w32}
use mir.Val.{SFits}
use mir.ValLaws.{to_z-of_z}
use borrow.Author.Rules.{rules}
use Rattle.words.specs.Bytes.{unsigned}
use Rattle.reading_units.proofs.LaysLaws.{unit_header, border_stays, unit_half, word_stays, unit_past}
use Rattle.reading_units.proofs.ToldLaws.{told_header, told_border, told_half, told_word, told_past}
use Rattle.reading_units.proofs.Payload.unit_at.Goals as goal
use Rattle.reading_units.proofs.Payload.unit_at.Goals.{Start}

-- the counts of a header
abbrev head : Start → List ℕ
head s = s.args.self.now.rows ∷ length s.args.self.now.borders.now ∷ length s.args.self.now.imprints.now ∷ length s.args.self.now.dictionary.now ∷ []

pub returns-then-q-lt4 : goal.returns-then-q-lt4
returns-then-q-lt4 c =
    let a = c.args in
    let t = c.if-q-lt4.true in
    let e = c.low_of.ensures ∙ ap (λ (x : ℕ). x % 256 ^ 4) c.count_at.ensures in
    record { told = told_header (head (goal.at.returns-then-q-lt4 c).Start) refl a.self.now.borders.now a.self.now.imprints.now a.self.now.dictionary.now a.q c.low_of.result t e; stays = unit_header a.self.now.borders.now a.self.now.imprints.now a.self.now.dictionary.now a.q c.low_of.result c.low_of.type_inv t }

pub returns-then-j-self : goal.returns-then-j-self
returns-then-j-self c =
    let a = c.args in
    let f : SFits w32 (get_or a.self.now.borders.now (a.q - 4) (pos 0)) = search rules in
    let e = c.bits_of.ensures ∙ ap (unsigned 4) (to_z-of_z w32 (get_or a.self.now.borders.now (a.q - 4) (pos 0)) f) in
    let g = c.if-q-lt4.false in
    let l = c.if-j-self.true in
    record { told = told_border (head (goal.at.returns-then-j-self c).Start) refl a.self.now.borders.now a.self.now.imprints.now a.self.now.dictionary.now a.q c.bits_of.result g l c.bits_of.type_inv e; stays = border_stays a.self.now.borders.now a.self.now.imprints.now a.self.now.dictionary.now a.q c.bits_of.result c.bits_of.type_inv g l f e }

pub returns-then-h-self : goal.returns-then-h-self
returns-then-h-self c =
    let a = c.args in
    let h = a.q - 4 - length a.self.now.borders.now in
    let g : a.q ≡ 4 + (length a.self.now.borders.now + h) = omega (arith, c.if-q-lt4.false, c.if-j-self.false) in
    let l = c.if-h-self.true in
    record { told = told_half (head (goal.at.returns-then-h-self c).Start) refl a.self.now.borders.now a.self.now.imprints.now a.self.now.dictionary.now a.q h c.half_at.result g l c.half_at.type_inv c.half_at.ensures.spells; stays = unit_half a.self.now.borders.now a.self.now.imprints.now a.self.now.dictionary.now a.q c.half_at.result c.half_at.type_inv h g l c.half_at.ensures.stays }

pub returns-then-d-self : goal.returns-then-d-self
returns-then-d-self c =
    let a = c.args in
    let d = a.q - 4 - length a.self.now.borders.now - 2 * length a.self.now.imprints.now in
    let g : a.q ≡ 4 + (length a.self.now.borders.now + (2 * length a.self.now.imprints.now + d)) = omega (arith, c.if-q-lt4.false, c.if-j-self.false, c.if-h-self.false) in
    let l = c.if-d-self.true in
    let f : get_or a.self.now.dictionary.now d 0 < 256 ^ 4 = omega arith in
    record { told = told_word (head (goal.at.returns-then-d-self c).Start) refl a.self.now.borders.now a.self.now.imprints.now a.self.now.dictionary.now a.q d (get_or a.self.now.dictionary.now d 0) g l f refl; stays = word_stays a.self.now.borders.now a.self.now.imprints.now a.self.now.dictionary.now a.q (get_or a.self.now.dictionary.now d 0) f d g l refl }

pub returns : goal.returns
returns c =
    let a = c.args in
    let g : 4 + (length a.self.now.borders.now + (2 * length a.self.now.imprints.now + length a.self.now.dictionary.now)) ≤ a.q = omega (arith, c.if-q-lt4.false, c.if-j-self.false, c.if-h-self.false, c.if-d-self.false) in
    record { told = told_past (head (goal.at.returns c).Start) refl a.self.now.borders.now a.self.now.imprints.now a.self.now.dictionary.now a.q g; stays = unit_past a.self.now.borders.now a.self.now.imprints.now a.self.now.dictionary.now a.q 0 (omega arith) g }
