-- `decimal_text::Text::word` meets its contract. Assumes nothing.
use mathlib.Core.Path.{refl}
use native.Mathlib.Omega.{arith}
use Rattle.words.proofs.ListLaws.{part_written}
use Rattle.decimal_text.proofs.Text.word.Goals as goal

pub returns : goal.returns
returns c =
    let t = c.args.self.now in
    let w = c.args.word.now in
    record { room = c.requires; place = refl; bytes = part_written t.at _ t.out.now c.copy_from_slice.new.self w c.copy_from_slice.ensures.after (omega arith) (omega arith); space = refl }
