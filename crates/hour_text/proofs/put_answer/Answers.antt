-- `hour_text::put_answer` meets its contract. Assumes nothing.
use mathlib.Core.Path.{sym, ◌∙◌, ap}
use native.Mathlib.Omega.{arith}
use lib.Seq.{length-take-le}
use Rattle.decimal_text.proofs.PutsLaws.{puts_as, refused_fits}
use Rattle.range_input.proofs.InputLaws.{minutes_unread, minutes_read, minutes_few, minutes_front}
use Rattle.hour_text.specs.Text.{register_text, text_of}
use Rattle.hour_text.proofs.AnswerLaws.{unread_text, read_text}
use Rattle.hour_text.proofs.put_answer.Goals as goal

pub slice_bounds-minutes-end : goal.slice_bounds-minutes-end
slice_bounds-minutes-end c = let f = c.decode_minutes in omega (arith, minutes_few f.ensures c.in-Some.n c.in-Some.is, f.auto.column)

pub slice_bounds-put_register-end : goal.slice_bounds-put_register-end
slice_bounds-put_register-end c =
    let f = c.decode_minutes in
    sym (length-take-le c.in-Some.n f.new.column (omega (arith, minutes_few f.ensures c.in-Some.n c.in-Some.is, f.auto.column)))

pub put_register-requires : goal.put_register-requires
put_register-requires c =
    let f = c.decode_minutes in
    let n = minutes_few f.ensures c.in-Some.n c.in-Some.is in
    (omega (arith, n, length-take-le c.in-Some.n f.new.column (omega (arith, n, f.auto.column))), c.requires)

pub refused-requires : goal.refused-requires
refused-requires c = refused_fits c.args.text.now _ (omega arith) (omega (arith, c.requires))

pub returns-in-Some : goal.returns-in-Some
returns-in-Some c =
    let i = c.args.input.now in
    let f = c.decode_minutes in
    puts_as (text_of i) (ap register_text (minutes_front f.ensures c.in-Some.n c.in-Some.is) ∙ read_text i (minutes_read f.ensures c.in-Some.n c.in-Some.is).0) c.put_register.ensures

pub returns-in-None : goal.returns-in-None
returns-in-None c =
    let i = c.args.input.now in
    puts_as (text_of i) (unread_text i (minutes_unread c.decode_minutes.ensures c.in-None.is)) c.refused.ensures
