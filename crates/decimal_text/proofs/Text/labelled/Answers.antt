-- `decimal_text::Text::labelled` meets its contract. Assumes nothing.
use Rattle.decimal_text.specs.Text.{decimal, labelled}
use Rattle.decimal_text.proofs.PutsLaws.{room_first, room_then, puts_then}
use Rattle.decimal_text.proofs.Text.labelled.Goals as goal

pub word-requires : goal.word-requires
unfolding labelled
word-requires c = room_first c.args.self.now c.args.word.now (decimal c.args.n) c.requires

pub number-requires : goal.number-requires
unfolding labelled
number-requires c = room_then c.args.self.now c.args.word.now (decimal c.args.n) c.requires _ c.word.ensures

pub returns : goal.returns
unfolding labelled
returns c = puts_then c.args.self.now c.args.word.now (decimal c.args.n) c.word.ensures c.number.ensures
