-- `hour_text::put_register` meets its contract: with at most 8,192 rows only 0 and 13 can arise. Assumes nothing.
use Prim.Native.Nat.{◌*◌}
use mathlib.Core.Path.{◌≡◌, refl, sym, ◌∙◌, ap}
use native.Mathlib.Omega.{arith}
use lib.Seq.{length-take-le}
use Rattle.std.specs.Prelude.{Err}
use Rattle.hour_register.specs.declared.RegisterRefusal.TheVariants.{TooLong}
use Rattle.decimal_text.proofs.PutsLaws.{puts_as, refused_fits}
use Rattle.hour_text.specs.Text.{register_text}
use Rattle.hour_text.proofs.AnswerLaws.{never_long, never_short, negative_text, count_few, lines_text}
use Rattle.hour_text.proofs.put_register.Goals as goal

pub overflow_mul-words : goal.overflow_mul-words
overflow_mul-words c = let f = c.register in omega (arith, count_few c.requires.0 refl f.ensures c.in-Ok.entries c.in-Ok.is)

pub slice_bounds-words-end : goal.slice_bounds-words-end
slice_bounds-words-end c = let f = c.register in omega (arith, count_few c.requires.0 refl f.ensures c.in-Ok.entries c.in-Ok.is, f.auto.words)

pub slice_bounds-put_entries-end : goal.slice_bounds-put_entries-end
slice_bounds-put_entries-end c =
    let f = c.register in
    sym (length-take-le (4 * c.in-Ok.entries) f.new.words (omega (arith, count_few c.requires.0 refl f.ensures c.in-Ok.entries c.in-Ok.is, f.auto.words)))

pub put_entries-requires : goal.put_entries-requires
put_entries-requires c =
    let f = c.register in
    let n = 4 * c.in-Ok.entries in
    let k = count_few c.requires.0 refl f.ensures c.in-Ok.entries c.in-Ok.is in
    omega (arith, c.requires.1, k, length-take-le n f.new.words (omega (arith, k, f.auto.words)))

pub refused-requires : goal.refused-requires
refused-requires c = refused_fits c.args.text.now _ (omega arith) (omega (arith, c.requires.1))

pub unreachable-requires : goal.unreachable-requires
unreachable-requires c = let e : c.register.result ≡ Err TooLong = cc in never_long c.requires.0 refl c.register.ensures e

pub unreachable-requires-in-Err-Short : goal.unreachable-requires-in-Err-Short
unreachable-requires-in-Err-Short c = never_short c.requires.0 refl c.register.ensures _ (c.in-Err-Short.is ∙ ap Err c.in-Err-Short.field-0-is)

pub returns-in-Ok : goal.returns-in-Ok
returns-in-Ok c = puts_as (register_text c.args.minutes.now) (lines_text c.requires.0 refl c.register.ensures c.in-Ok.entries c.in-Ok.is) c.put_entries.ensures

pub returns-in-Err-Negative : goal.returns-in-Err-Negative
returns-in-Err-Negative c = puts_as (register_text c.args.minutes.now) (negative_text c.requires.0 refl c.register.ensures _ (c.in-Err-Negative.is ∙ ap Err c.in-Err-Negative.field-0-is)) c.refused.ensures
