-- `decimal_text::Text::ended` meets its contract. Assumes nothing.
use mathlib.Core.List.{[], ◌∷◌}
use Rattle.decimal_text.specs.Text.{decimal, ended}
use Rattle.decimal_text.proofs.PutsLaws.{room_first, room_then, puts_then}
use Rattle.decimal_text.proofs.Text.ended.Goals as goal

pub number-requires : goal.number-requires
unfolding ended
number-requires c = room_first c.args.self.now (decimal c.args.n) (c.args.byte ∷ []) c.requires

pub byte-requires : goal.byte-requires
unfolding ended
byte-requires c = room_then c.args.self.now (decimal c.args.n) (c.args.byte ∷ []) c.requires _ c.number.ensures

pub returns : goal.returns
unfolding ended
returns c = puts_then c.args.self.now (decimal c.args.n) (c.args.byte ∷ []) c.number.ensures c.byte.ensures
