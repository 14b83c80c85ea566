-- `reading_imprints::tree::SearchTree::line_imprint` meets its contract. Assumes nothing.
use Prim.Native.Nat.{ℕ, ◌^◌}
use mathlib.Core.Path.{◌≡◌, sym, ap, ◌∙◌}
use lib.ListN.{get_or}
use lib.Bits.{bit_or}
use lib.IntN.{pos}
use borrow.Author.Rules.{rules}
use mir.Syntax.{w32}
use mir.ValLaws.{to_z-of_z}
use Rattle.bins.specs.Bins.{readings, bin}
use Rattle.bins.proofs.TurnLaws.{imprint_none, imprint_turn, one_shl}
use Rattle.reading_imprints.proofs.tree.SearchTree.line_imprint.Goals as goal

pub loop-i-init : goal.loop-i-init
loop-i-init c = sym (imprint_none readings c.args.self.now)

pub overflow_shl-word : goal.overflow_shl-word
overflow_shl-word c = c.bin_from.ensures.few

pub loop-i-preserved : goal.loop-i-preserved
loop-i-preserved c =
    let bs = c.args.self.now in
    let l = c.loop-i in
    -- the row of this turn, and its bin
    let row = get_or c.args.rows.now l.i (pos 0) in
    let row_bin : c.bin_from.result ≡ bin readings bs row = c.bin_from.ensures.found ∙ ap (bin readings bs) (to_z-of_z w32 row (search rules)) in
    ap (λ (x : ℕ). bit_or l.word x) (one_shl c.bin_from.result c.bin_from.ensures.few ∙ ap (λ (b : ℕ). 2 ^ b) row_bin)
    ∙ ap (λ (x : ℕ). bit_or x (2 ^ bin readings bs row)) l.invariant
    ∙ sym (imprint_turn readings bs c.args.rows.now l.i c.loop-i-test.true)
