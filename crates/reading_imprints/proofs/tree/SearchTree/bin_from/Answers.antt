-- `reading_imprints::tree::SearchTree::bin_from` meets its contract. Assumes nothing.
use Prim.Native.Nat.{ℕ, ◌<◌, ◌+◌, ◌*◌, ◌^◌, ◌%◌, ◌≤◌}
use mathlib.Core.Path.{◌≡◌, sym, ap, ◌∙◌}
use mathlib.Core.Bool.{cond}
use mathlib.Core.List.{List}
use native.Mathlib.Omega.{arith}
use lib.IntN.{ℤ, pos}
use lib.ListN.{get_or, length}
use lib.Signed.{le_z}
use mir.Syntax.{w32}
use mir.Val.{to_z, of_z, hbits, SFits}
use mir.ValLaws.{to_z-of_z}
use Rattle.bins.specs.Bins.{readings, bin}
use Rattle.bins.specs.loops.Ladder.{tree, landing}
use Rattle.bins.proofs.BinLaws.{bin_le}
use Rattle.bins.proofs.LadderLaws.{next, behind_le, node_next, walk_ends, fits_greatest}
use Rattle.reading_imprints.proofs.tree.SearchTree.bin_from.Goals as goal

module _ (bs nodes : List ℤ) (few : length bs ≤ 63) (laid : nodes ≡ tree readings bs) (v : ℤ) (fits : SFits w32 v) where
  small : bin readings bs v < 64
  small = omega (arith, bin_le readings bs v, few)

  -- a step from node n is one of the bin's walk
  step : (n r : ℕ) → n < 64 → r ≡ 2 * n + cond (le_z (to_z w32 (of_z w32 v)) (get_or nodes n (pos 0))) 0 1 → r ≡ next (bin readings bs v) n
  step n r h e =
      e ∙ ap (λ (x : ℤ). 2 * n + cond (le_z x (get_or nodes n (pos 0))) 0 1) (to_z-of_z w32 v fits)
      ∙ node_next readings bs few v (fits_greatest (2 ^ hbits w32) v fits.sfits) nodes laid n (omega (arith, h))

  module _ (from : ℕ) (e : from ≡ landing readings bs v) where
    landed : from < 64
    landed = omega (arith, e, small)

    module _ (a : ℕ) (p : a ≡ 2 * from + cond (le_z (to_z w32 (of_z w32 v)) (get_or nodes from (pos 0))) 0 1) where
      first : a ≡ next (bin readings bs v) from
      first = step from a landed p

      first_low : a < 64
      first_low = omega (arith, first, behind_le (bin readings bs v) from, e, small)

      module _ (b : ℕ) (q : b ≡ 2 * a + cond (le_z (to_z w32 (of_z w32 v)) (get_or nodes a (pos 0))) 0 1) where
        second : b ≡ next (bin readings bs v) a
        second = step a b first_low q

        second_low : b < 64
        second_low = omega (arith, second, behind_le (bin readings bs v) a, first, behind_le (bin readings bs v) from, e, small)

        -- the third step ends at the bin
        ended : (c : ℕ) → c ≡ 2 * b + cond (le_z (to_z w32 (of_z w32 v)) (get_or nodes b (pos 0))) 0 1 → c ≡ 64 + bin readings bs v
        ended c r = step b c second_low r ∙ ap (next (bin readings bs v)) (second ∙ ap (next (bin readings bs v)) (first ∙ ap (next (bin readings bs v)) e)) ∙ walk_ends (bin readings bs v) small

pub next-a-requires : goal.next-a-requires
next-a-requires c =
    let s = c.self in
    landed s.inside.borders.now s.inside.nodes s.invariant.0 s.invariant.1 c.args.v c.ranges.v c.args.from (c.requires ∙ ap (λ (l : List ℤ). landing readings l c.args.v) (sym s.view_is))

pub next-b-requires : goal.next-b-requires
next-b-requires c =
    let s = c.self in
    first_low s.inside.borders.now s.inside.nodes s.invariant.0 s.invariant.1 c.args.v c.ranges.v c.args.from (c.requires ∙ ap (λ (l : List ℤ). landing readings l c.args.v) (sym s.view_is)) c.next-a.result c.next-a.ensures

pub next-c-requires : goal.next-c-requires
next-c-requires c =
    let s = c.self in
    second_low s.inside.borders.now s.inside.nodes s.invariant.0 s.invariant.1 c.args.v c.ranges.v c.args.from (c.requires ∙ ap (λ (l : List ℤ). landing readings l c.args.v) (sym s.view_is)) c.next-a.result c.next-a.ensures c.next-b.result c.next-b.ensures

pub returns-clause-found : goal.returns-clause-found
returns-clause-found c =
    let s = c.self in
    let bs = s.inside.borders.now in
    let e = ended bs s.inside.nodes s.invariant.0 s.invariant.1 c.args.v c.ranges.v c.args.from (c.requires ∙ ap (λ (l : List ℤ). landing readings l c.args.v) (sym s.view_is)) c.next-a.result c.next-a.ensures c.next-b.result c.next-b.ensures c.next-c.result c.next-c.ensures in
    let low : bin readings bs c.args.v < 64 = omega (arith, bin_le readings bs c.args.v, s.invariant.0) in
    let found : c.next-c.result % 64 ≡ bin readings bs c.args.v = omega (arith, e, low) in
    found ∙ ap (λ (l : List ℤ). bin readings l c.args.v) s.view_is
