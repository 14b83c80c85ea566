-- `card_block::put_bytes` meets its contract: those put so far. Assumes nothing.
use Prim.Native.Nat.{ℕ, ◌+◌}
use mathlib.Core.Path.{◌∙◌, ap}
use mathlib.Core.List.{List}
use native.Mathlib.Omega.{arith}
use lib.ListN.{get_or, set}
use Rattle.card_block.proofs.PlaceLaws.{byte_turn}
use Rattle.card_block.proofs.put_bytes.Goals as goal

pub loop-i-preserved : goal.loop-i-preserved
loop-i-preserved g c =
    let l = c.loop-i in
    let bs = c.args.bytes.now in
    ap (λ (b : List ℕ). set b (c.args.at + l.i) (get_or bs l.i 0)) l.invariant ∙ byte_turn c.args.block.now c.args.at bs l.i (omega arith)
