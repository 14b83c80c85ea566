-- `decimal_text::put_digits` meets its contract: a tenth of the number first, then its last digit. Assumes nothing.
use Prim.Native.Nat.{◌+◌, ◌/◌, ◌%◌}
use mathlib.Core.Path.{◌≡◌, sym, ◌∙◌, ap}
use mathlib.Core.List.{[], ◌∷◌}
use native.Mathlib.Omega.{arith}
use lib.ListN.{length, length-append}
use Rattle.std.proofs.Common.{slice_set}
use Rattle.std.proofs.lemmas.List.Edits.{sets}
use Rattle.words.proofs.ListLaws.{sets_append}
use Rattle.decimal_text.specs.Text.{decimal}
use Rattle.decimal_text.proofs.DecimalLaws.{decimal_digit, decimal_more}
use Rattle.decimal_text.proofs.+put_digits.Goals as goal

pub bounds-out-at : goal.bounds-out-at
bounds-out-at t c = omega (arith, c.requires, ap length (decimal_digit c.args.n c.if-n-lt10.true))

pub returns-then-n-lt10 : goal.returns-then-n-lt10
returns-then-n-lt10 t c =
    let a = c.args in
    let m = decimal_digit a.n c.if-n-lt10.true in
    let d : c.digit.result ≡ 48 + a.n % 10 = omega (arith, c.digit.ensures) in
    (omega (arith, ap length m), ap (slice_set a.out.now a.at) d ∙ sym (ap (sets a.out.now a.at) m))

pub put_digits-next-requires : goal.put_digits-next-requires
put_digits-next-requires t c =
    let n = c.args.n in
    (omega arith, omega (arith, c.requires, ap length (decimal_more n c.if-n-lt10.false c.ranges.n.fits), length-append (decimal (n / 10)) ((48 + n % 10) ∷ [])))

pub bounds-out-next : goal.bounds-out-next
bounds-out-next t c =
    let n = c.args.n in
    let p = c.put_digits-next in
    omega (arith, c.requires, ap length (decimal_more n c.if-n-lt10.false c.ranges.n.fits), length-append (decimal (n / 10)) ((48 + n % 10) ∷ []), p.ensures.0, p.auto.out)

pub overflow_add-result-2 : goal.overflow_add-result-2
overflow_add-result-2 t c =
    let n = c.args.n in
    omega (arith, c.requires, ap length (decimal_more n c.if-n-lt10.false c.ranges.n.fits), length-append (decimal (n / 10)) ((48 + n % 10) ∷ []), c.put_digits-next.ensures.0)

pub returns : goal.returns
returns t c =
    let a = c.args in
    let front = decimal (a.n / 10) in
    let last = (48 + a.n % 10) ∷ [] in
    let m = decimal_more a.n c.if-n-lt10.false c.ranges.n.fits in
    let p = c.put_digits-next.ensures in
    (omega (arith, p.0, ap length m, length-append front last), (λ j. slice_set (p.1 j) (p.0 j) (c.digit-2.ensures j)) ∙ sym (sets_append front last a.out.now a.at) ∙ sym (ap (sets a.out.now a.at) m))
