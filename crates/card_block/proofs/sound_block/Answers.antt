-- `card_block::sound_block` meets its contract. Assumes nothing.
use mathlib.Core.Path.{sym, ◌∙◌, ap}
use lib.ListN.{length}
use Rattle.card_block.specs.Block.{sound}
use Rattle.card_block.proofs.CloseLaws.{told, other_size}
use Rattle.card_block.proofs.sound_block.Goals as goal

pub returns-in_err-block : goal.returns-in_err-block
returns-in_err-block c = rw c.from_residual.ensures (other_size c.args.bytes.now c.in_err-block.ensures.cases)

pub returns-then-eq : goal.returns-then-eq
returns-then-eq c =
    let w = c.in_ok-block.ensures.cases in
    (ap sound (sym w.same) ∙ told c.in_ok-block.block.now (ap length w.same ∙ w.long) _ _ _ _ c.check_of.ensures c.stored_check.ensures ∙ sym c.if-eq.ensures, w.same)

pub returns : goal.returns
returns c =
    let w = c.in_ok-block.ensures.cases in
    ap sound (sym w.same) ∙ told c.in_ok-block.block.now (ap length w.same ∙ w.long) _ _ _ _ c.check_of.ensures c.stored_check.ensures ∙ sym c.if-eq.ensures
