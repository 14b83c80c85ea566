-- `told_words::Packing::before_repeat` meets its contract. Assumes nothing.
use Rattle.told_words.specs.loops.TakenUp.{but_last}
use Rattle.told_words.proofs.SteadyLaws.{steady_all}
use Rattle.told_words.proofs.Packing.before_repeat.Goals as goal

pub counted-requires-clause-steady : goal.counted-requires-clause-steady
counted-requires-clause-steady c =
    let p = c.args.self in
    rw c.after_front.ensures (steady_all p.full (but_last p.dictionary.now) (but_last p.imprints.now))
