-- `hour_register::cutting::Entries::of` meets its contract. Assumes nothing.
use Rattle.hour_register.proofs.AnswerLaws.{counted_all}
use Rattle.hour_register.proofs.cutting.Entries.of.Goals as goal

pub invariant_of-result : goal.invariant_of-result
invariant_of-result c =
    let f = counted_all c.args.minutes.now c.in_ok-count.count c.in_ok-count.ensures in
    record { few = c.requires; natural = f.0; counted = f.1 }
