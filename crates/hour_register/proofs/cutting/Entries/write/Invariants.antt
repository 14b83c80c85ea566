-- `hour_register::cutting::Entries::write` meets its contract. Assumes nothing.
use Prim.Native.Nat.{ℕ}
use mathlib.Core.List.{List}
use Rattle.hour_register.proofs.NoteLaws.{Writing}
use Rattle.hour_register.proofs.cutting.Entries.write.Given as goal

abbrev pub invariant-loop-e : goal.invariant-loop-e
invariant-loop-e l = (at : ℕ) × (hs : List ℕ) × Writing l.minutes l.n l.words l.e at hs
