-- `reading_units::Payload::fill_payload` meets its contract: wholly in the imprints, wholly in the dictionary, or anywhere. Assumes nothing.
use Rattle.reading_units.proofs.PartLaws.{imprints_put_on, words_put_on}
use Rattle.reading_units.proofs.Payload.fill_payload.Goals as goal

pub returns-in-Some : goal.returns-in-Some
returns-in-Some c =
    let a = c.args in
    let x = a.self.now in
    let t = c.in-Some.ensures in
    let r = imprints_put_on a.n x.borders.now x.imprints.now x.dictionary.now c.in-Some.h t.0 t.1 x.rows a.block.now c.fill_halves.new.block c.fill_halves.ensures in
    record { fills = r.0; stays = r.1 }

pub returns-in-Some-words_from : goal.returns-in-Some-words_from
returns-in-Some-words_from c =
    let a = c.args in
    let x = a.self.now in
    let t = c.in-Some-words_from.ensures in
    let r = words_put_on a.n x.borders.now x.imprints.now x.dictionary.now c.in-Some-words_from.d t.0 t.1 x.rows a.block.now c.fill_words.new.block c.fill_words.ensures in
    record { fills = r.0; stays = r.1 }
