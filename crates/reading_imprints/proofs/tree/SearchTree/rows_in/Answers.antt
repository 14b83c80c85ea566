-- `reading_imprints::tree::SearchTree::rows_in` meets its contract. Assumes nothing.
use Prim.Native.Nat.{ℕ, ◌+◌, ◌^◌}
use mathlib.Core.Path.{◌≡◌, ap, ap₂, ◌∙◌}
use mathlib.Core.List.{List, ◌∷◌, map}
use mathlib.Core.Bool.{cond}
use native.Mathlib.Omega.{arith}
use native.Mathlib.Numerals.{add-one}
use lib.Dec.{eqb}
use lib.IntN.{ℤ, pos}
use lib.ListN.{drop, get_or}
use lib.Seq.{drop-cons}
use mir.Syntax.{w32}
use mir.Val.{hbits, SFits}
use borrow.Author.Rules.{rules}
use Rattle.words.specs.Lists.{times}
use Rattle.bins.specs.Bins.{readings, bin}
use Rattle.bins.proofs.TurnLaws.{plain_le}
use Rattle.bins.proofs.LadderLaws.{between, leaves_tell, fits_greatest}
use Rattle.reading_imprints.proofs.tree.SearchTree.rows_in.Goals as goal

pub loop-row-preserved : goal.loop-row-preserved
loop-row-preserved c =
    let l = c.loop-row in
    let i = l.row-index in
    let s = c.self in
    let rows = c.args.rows.now in
    let nodes = s.inside.nodes in
    let b = c.args.b in
    let f : ℤ → ℕ = bin readings c.args.self.now in
    let v : ℤ = get_or rows i (pos 0) in
    let fits : SFits w32 v = search rules in
    let left = plain_le w32 v (get_or nodes (b + 63) (pos 0)) fits (search rules) in
    let right = plain_le w32 v (get_or nodes (b + 64) (pos 0)) fits (search rules) in
    let tells = leaves_tell readings s.inside.borders.now s.invariant.0 v (fits_greatest (2 ^ hbits w32) v fits.sfits) nodes s.invariant.1 b c.requires.0 c.requires.1 in
    let one : c.between-n.result ≡ cond (eqb (f v) b) 1 0 = c.between-n.ensures.which ∙ ap₂ between left right ∙ tells ∙ ap (λ (m : List ℤ). cond (eqb (bin readings m v) b) 1 0) s.view_is in
    let next : drop i rows ≡ v ∷ drop (i + 1) rows = rw add-one (drop-cons rows i (pos 0) c.loop-row-test.true) in
    let rest : times b (map f (drop i rows)) ≡ cond (eqb (f v) b) 1 0 + times b (map f (drop (i + 1) rows)) = ap (λ (m : List ℤ). times b (map f m)) next in
    (omega (arith, l.invariant.0, c.between-n.ensures.few), omega (arith, l.invariant.1, one, rest))
