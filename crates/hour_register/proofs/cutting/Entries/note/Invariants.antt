-- `hour_register::cutting::Entries::note` meets its contract. Assumes nothing.
use Rattle.hour_register.proofs.NoteLaws.{Noting}
use Rattle.hour_register.proofs.cutting.Entries.note.Given as goal

abbrev pub invariant-loop-e : goal.invariant-loop-e
invariant-loop-e l = Noting l.self.minutes.now l.n l.initial.words l.words l.at l.e
