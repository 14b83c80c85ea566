-- `guarded_search::Asking::gap_in` meets its contract: what the values left make of the gap is what all values make of all the keys. Assumes nothing.
use mathlib.Core.Path.{◌≡◌}
use lib.ListN.{drop}
use Rattle.guarded_search.specs.loops.Steps.{narrow_all, widest}
use Rattle.guarded_search.proofs.Asking.gap_in.Given as goal

abbrev pub invariant-loop-v : goal.invariant-loop-v
invariant-loop-v l = narrow_all l.self.span l.self.low l.self.high l.gap (drop l.v-index l.column) ≡ narrow_all l.self.span l.self.low l.self.high (widest l.self.span) l.column
