-- `reading_units::Payload::fill_units` meets its contract: the units still to come fix every byte, and those put so far change no word. Assumes nothing.
use Prim.Native.Nat.{ℕ, ◌+◌, ◌*◌, ◌%◌, ◌≤◌}
use mathlib.Core.Path.{◌≡◌, refl, ◌∙◌, ap}
use mathlib.Core.List.{List}
use native.Mathlib.Omega.{arith}
use lib.IntN.{ℤ}
use lib.ListN.{length, drop}
use lib.Seq.{sets}
use Rattle.card_image.specs.Image.{first_edition, index_words, payload}
use Rattle.card_image.proofs.ImageLaws.{length_payload, payload_are}
use Rattle.reading_units.specs.loops.Lays.{payload_of, padded}
use Rattle.reading_units.proofs.TurnLaws.{laying_starts, laying_turns, laying_ends, length_padded, padded_unit, puts_turn, filled_ends}
use Rattle.reading_units.proofs.Payload.fill_units.Goals as goal

-- a payload is units from end to end
fours : (rows : ℕ) (bs : List ℤ) (is ds : List ℕ) → length (payload first_edition rows (index_words bs is ds)) % 4 ≡ 0
fours rows bs is ds = omega (arith, length_payload first_edition rows (index_words bs is ds))

pub loop-i-init : goal.loop-i-init
loop-i-init c =
    let a = c.args in
    (refl, refl, laying_starts (496 * a.n) (padded a.n (payload_of a.self.now)) a.self.now.borders.now a.self.now.imprints.now a.self.now.dictionary.now)

pub loop-i-preserved : goal.loop-i-preserved
loop-i-preserved c =
    let a = c.args in
    let x = a.self.now in
    let l = c.loop-i in
    let u = c.unit_at in
    let p = payload_of x in
    let less = c.loop-i-test.true in
    let place : 4 * (124 * a.n + l.i) ≡ 496 * a.n + 4 * l.i = omega arith in
    let e = padded_unit a.n p (payload_are first_edition x.rows (index_words x.borders.now x.imprints.now x.dictionary.now)) (fours x.rows x.borders.now x.imprints.now x.dictionary.now) l.i u.result less u.ensures.told in
    (refl, ap (λ (b : List ℕ). sets b (12 + 4 * (l.i + 1)) (drop (4 * (l.i + 1)) (padded a.n p))) c.put_number.ensures ∙ puts_turn l.block (padded a.n p) l.i u.result e ∙ l.invariant.1, laying_turns u.result (4 * (124 * a.n + l.i)) place (omega (arith, less, length_padded a.n p)) e l.invariant.2 u.ensures.stays)

pub returns : goal.returns
returns c =
    let a = c.args in
    let l = c.loop-i in
    let f = padded a.n (payload_of a.self.now) in
    let h : length f ≤ 4 * l.i = omega (arith, length_padded a.n (payload_of a.self.now), c.loop-i-test.false) in
    record { fills = filled_ends l.block a.block.now f l.i h l.invariant.1; stays = (laying_ends h l.invariant.2).0 }
