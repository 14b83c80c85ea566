-- `reading_imprints::tree::SearchTree::of` meets its contract. Assumes nothing.
use Prim.Native.Nat.{ℕ}
use mathlib.Core.Path.{◌≡◌, ap₂, ◌∙◌}
use mathlib.Core.List.{List}
use native.Mathlib.Omega.{arith}
use lib.IntN.{ℤ, pos}
use lib.ListN.{get_or, length-set}
use mir.Syntax.{w32}
use mir.Val.{to_z, of_z}
use mir.ValLaws.{to_z-of_z}
use borrow.Author.Rules.{rules}
use Rattle.bins.specs.Bins.{readings}
use Rattle.bins.proofs.LadderLaws.{node, laid_turn, laid_all}
use Rattle.reading_imprints.proofs.tree.SearchTree.of.Goals as goal

pub loop-n-preserved : goal.loop-n-preserved
loop-n-preserved c =
    let bs = c.args.borders.now in
    let l = c.loop-n in
    let rungs = c.ladder_of-rungs in
    let at = c.place_of in
    let x : ℤ = get_or rungs.result at.result (pos 0) in
    let e : to_z w32 (of_z w32 x) ≡ node readings bs l.n = to_z-of_z w32 x (search rules) ∙ ap₂ (λ (r : List ℤ) (j : ℕ). get_or r j (pos 0)) rungs.ensures at.ensures.at in
    let h = c.loop-n-test.true in
    (length-set l.nodes l.n (to_z w32 (of_z w32 x)) ∙ l.invariant.0, rw e (laid_turn readings bs l.nodes l.n (omega (arith, l.invariant.0, h)) h l.invariant.1))

pub invariant_of-result : goal.invariant_of-result
invariant_of-result c =
    let l = c.loop-n in
    (c.requires, laid_all readings c.args.borders.now l.nodes l.n l.invariant.0 c.loop-n-test.false l.invariant.1)
