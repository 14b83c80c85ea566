-- `decimal_text::Text::refused` meets its contract. Assumes nothing.
use mathlib.Core.List.{[], ◌∷◌}
use Rattle.decimal_text.specs.Text.{labelled, refused_word, refused_line}
use Rattle.decimal_text.proofs.PutsLaws.{room_first, room_then, puts_then}
use Rattle.decimal_text.proofs.Text.refused.Goals as goal

pub labelled-requires : goal.labelled-requires
unfolding refused_line
labelled-requires c = room_first c.args.self.now (labelled refused_word c.args.n) (10 ∷ []) c.requires

pub byte-requires : goal.byte-requires
unfolding refused_line
byte-requires c = room_then c.args.self.now (labelled refused_word c.args.n) (10 ∷ []) c.requires _ c.labelled.ensures

pub returns : goal.returns
unfolding refused_line
returns c = puts_then c.args.self.now (labelled refused_word c.args.n) (10 ∷ []) c.labelled.ensures c.byte.ensures
