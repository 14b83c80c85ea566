-- `reading_card::payload_length` meets its contract. Assumes nothing.
use mathlib.Core.Path.{sym}
use native.Mathlib.Omega.{arith}
use Rattle.card_image.specs.Image.{first_edition, index_words}
use Rattle.card_image.proofs.ImageLaws.{length_payload}
use Rattle.reading_card.proofs.payload_length.Goals as goal

pub returns : goal.returns
returns c =
    let x = c.args.payload.now in
    (sym (length_payload first_edition x.rows (index_words x.borders.now x.imprints.now x.dictionary.now)), omega arith)
