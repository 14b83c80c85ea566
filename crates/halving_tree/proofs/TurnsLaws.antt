-- The cases of `turns_leaf`, over plain numbers. Assumes nothing.
use mathlib.Core.Path.{◌≡◌, refl, sym, ap, ap₂, subst, ◌∙◌}
use mathlib.Core.Bool.{Bool, true, false, beq}
use mathlib.Core.List.{List}
use Prim.Native.Nat.{ℕ, ◌+◌, ◌-◌, ◌/◌, ◌^◌, ◌≤◌, ◌<◌}
use native.Mathlib.Decide.{dec_lt, dec_le}
use native.Mathlib.Omega.{arith}
use lib.ListN.{get_or}
use lib.Pow.{pow_pos}
use lib.Dec.{eqb}
use borrow.Author.Tests.{ne_eqb}
use Rattle.std.specs.Int.{from_bool}
use Rattle.halving_tree.specs.Tree.{Tree, leaf, join, shift, tree_of, paint}
use Rattle.halving_tree.specs.Encode.{leaf_word}
use Rattle.halving_tree.specs.loops.Place.{At, Says, Place}
use Rattle.halving_tree.specs.loops.Form.{Parted}
use Rattle.halving_tree.proofs.Laws.{tree_of_ext, tree_of_const, twin_same}
use Rattle.halving_tree.proofs.AskLaws.{at_leaf, join_leaf, leaf_all, says_map}
use Rattle.halving_tree.proofs.AskLaws as ask
use Rattle.halving_tree.proofs.PaintLaws.{paint_in, paint_under, paint_over, paint_out, paint_same, paint_whole, paint_none, paint_parts}
use Rattle.halving_tree.proofs.OneTree.{one_tree}

-- a leaf painted in its own kind
paint_leaf : (k : ℕ) (b : Bool) (lo hi : ℕ) (D : ℕ → Bool) → tree_of k D ≡ leaf b → tree_of k (paint b lo hi D) ≡ leaf b
paint_leaf k b lo hi D e = tree_of_ext k (paint b lo hi D) (λ x. b) (λ x lt. go x lt (dec_le lo x) (dec_le x hi)) ∙ tree_of_const k b
  where
    go : (x : ℕ) → x < 2 ^ k → Dec (lo ≤ x) → Dec (x ≤ hi) → paint b lo hi D x ≡ b
    go x lt (yes a) (yes c) = paint_in b lo hi D x a c
    go x lt (yes a) (no n) = paint_out b lo hi D x (λ r. n r.1) ∙ leaf_all k D b e x lt
    go x lt (no n) c = paint_out b lo hi D x (λ r. n r.0) ∙ leaf_all k D b e x lt

-- sets of one tree, painted alike, have one tree
pub paint_tree : (k : ℕ) (b : Bool) (lo hi : ℕ) (D E : ℕ → Bool) → tree_of k D ≡ tree_of k E → tree_of k (paint b lo hi D) ≡ tree_of k (paint b lo hi E)
paint_tree k b lo hi D E e =
    tree_of_ext k (paint b lo hi D) (paint b lo hi E) (λ x lt. paint_same b lo hi lo hi D E x x (λ r. r) (λ r. r) (one_tree k D E e x lt))

-- a painted tree that is a leaf is one of the kind that was painted
pub painted_kind : (k : ℕ) (b v : Bool) (lo hi : ℕ) (D : ℕ → Bool) → lo ≤ hi → hi < 2 ^ k → tree_of k (paint b lo hi D) ≡ leaf v → v ≡ b
painted_kind k b v lo hi D o i e = sym (leaf_all k (paint b lo hi D) v e hi i) ∙ paint_in b lo hi D hi o (omega arith)

-- a leaf's word as the code has it, and two words that differ
pub leaf_number : (b : Bool) → from_bool b ≡ leaf_word b
leaf_number true = refl
leaf_number false = refl

pub not_said : (a b : ℕ) {P : Type 0} → (a ≡ b → ⊥) → (P → ⊥) → Says (eqb a b) P
not_said a b n f = rw (ne_eqb a b n) f

join_same : (b : Bool) (l r : Tree) → l ≡ leaf b → r ≡ leaf b → join l r ≡ leaf b
join_same b l r e f = ap₂ join e f ∙ twin_same b

module _ {w : List ℕ} {p k span hi : ℕ} (here : Place w p k span hi) (b : Bool) (lo : ℕ) (order : lo ≤ hi) where
  abbrev T : (ℕ → Bool) → Tree
  T D = tree_of k (paint b lo hi D)

  -- all keys painted
  pub whole_leaf : hi - lo ≡ span - 1 → (D : ℕ → Bool) → T D ≡ leaf b
  whole_leaf e D =
      let i = here.inside in
      let s = here.whole in
      paint_whole k b lo hi D (omega (arith, pow_pos k)) (omega (arith, pow_pos k))

  -- the tree was a leaf
  pub was_leaf : (hi - lo ≡ span - 1 → ⊥) → (a : Bool) → get_or w p 0 ≡ leaf_word a → (D : ℕ → Bool) → At w p (tree_of k D) → Says (beq a b) (T D ≡ leaf b)
  was_leaf part a word D h = go a b refl refl
    where
      was : tree_of k D ≡ leaf a
      was = at_leaf w p (tree_of k D) a h word

      same : a ≡ b → T D ≡ leaf b
      same e = paint_leaf k b lo hi D (was ∙ ap leaf e)

      other : T D ≡ leaf b → a ≡ b
      other e = by_low (dec_lt 0 lo)
        where
          by_low : Dec (0 < lo) → a ≡ b
          by_low (yes l) =
              sym (leaf_all k D a was 0 (pow_pos k)) ∙ sym (paint_under b lo hi D 0 l) ∙ leaf_all k (paint b lo hi D) b e 0 (pow_pos k)
          by_low (no f) =
              let i = here.inside in
              let s = here.whole in
              let u : hi + 1 < 2 ^ k = omega (arith, part) in
              sym (leaf_all k D a was (hi + 1) u) ∙ sym (paint_over b lo hi D (hi + 1) (omega arith)) ∙ leaf_all k (paint b lo hi D) b e (hi + 1) u

      go : (x y : Bool) → a ≡ x → b ≡ y → Says (beq x y) (T D ≡ leaf b)
      go true true e f = same (e ∙ sym f)
      go true false e f = λ t. let z : true ≡ false = sym e ∙ other t ∙ f in absurd (let y : ◌≡◌ {A = ℕ} 0 1 = cc in omega arith)
      go false true e f = λ t. let z : false ≡ true = sym e ∙ other t ∙ f in absurd (let y : ◌≡◌ {A = ℕ} 0 1 = cc in omega arith)
      go false false e f = same (e ∙ sym f)

  -- the tree is a split, and the range as its halves see it
  module _ (split : 2 ≤ get_or w p 0) {llo lhi rlo rhi : ℕ} (cut : Parted (span / 2) lo hi llo lhi rlo rhi) where
    abbrev L : (ℕ → Bool) → Tree
    L D = tree_of (k - 1) (paint b llo lhi D)

    abbrev R : (ℕ → Bool) → Tree
    R D = tree_of (k - 1) (paint b rlo rhi D)

    abbrev Left : Bool → Type 0
    Left r = (D : ℕ → Bool) → At w (p + 1) (tree_of (k - 1) D) → Says r (L D ≡ leaf b)

    abbrev Right : Bool → Type 0
    Right r = (D : ℕ → Bool) → At w (p + get_or w p 0 - 1) (tree_of (k - 1) D) → Says r (R D ≡ leaf b)

    abbrev S : (ℕ → Bool) → ℕ → Bool
    S D = shift (2 ^ (k - 1)) D

    joined : (D : ℕ → Bool) → T D ≡ join (L D) (R (S D))
    joined D = paint_parts k b lo hi D (ask.deep here split) (span / 2) llo lhi rlo rhi (ask.half here split) cut

    parts : (D : ℕ → Bool) → T D ≡ leaf b → (L D ≡ leaf b) × (R (S D) ≡ leaf b)
    parts D e = join_leaf b (L D) (R (S D)) (sym (joined D) ∙ e)

    whole : (D : ℕ → Bool) → L D ≡ leaf b → R (S D) ≡ leaf b → T D ≡ leaf b
    whole D l r = joined D ∙ join_same b (L D) (R (S D)) l r

    -- the halves both met
    pub left_stays : (l : Bool) → l ≡ false → Left l → (D : ℕ → Bool) → At w p (tree_of k D) → Says l (T D ≡ leaf b)
    left_stays true e f D h = absurd (let z : ◌≡◌ {A = ℕ} 0 1 = cc in omega arith)
    left_stays false e f D h = λ t. f D (ask.halves here split D h).left (parts D t).0

    pub both_turn : (l r : Bool) → l ≡ true → Left l → Right r → (D : ℕ → Bool) → At w p (tree_of k D) → Says r (T D ≡ leaf b)
    both_turn false r e f g D h = absurd (let z : ◌≡◌ {A = ℕ} 0 1 = cc in omega arith)
    both_turn true r e f g D h =
        says_map r (whole D (f D (ask.halves here split D h).left)) (λ t. (parts D t).1) (g (S D) (ask.right_at here split D h))

    -- the range lies in the lower half: what the upper one's word says
    module _ (lt : hi < span / 2) where
      empty : rhi < rlo
      empty = go (dec_lt rhi rlo)
        where
          go : Dec (rhi < rlo) → rhi < rlo
          go (yes l) = l
          go (no n) = let i = cut.right_back rlo (omega arith, omega arith) in absurd (omega arith)

      upper_kept : (D : ℕ → Bool) → R D ≡ tree_of (k - 1) D
      upper_kept D = paint_none (k - 1) b rlo rhi D empty

      pub upper_apart : (get_or w (p + get_or w p 0 - 1) 0 ≡ leaf_word b → ⊥) → (D : ℕ → Bool) → At w p (tree_of k D) → T D ≡ leaf b → ⊥
      upper_apart n D h t = n (subst (At w (p + get_or w p 0 - 1)) (sym (upper_kept (S D)) ∙ (parts D t).1) (ask.right_at here split D h)).1

      pub lower_turns : get_or w (p + get_or w p 0 - 1) 0 ≡ leaf_word b → (r : Bool) → Left r → (D : ℕ → Bool) → At w p (tree_of k D) → Says r (T D ≡ leaf b)
      lower_turns e r f D h =
          let q = ask.right_at here split D h in
          says_map r (λ l. whole D l (upper_kept (S D) ∙ at_leaf w (p + get_or w p 0 - 1) (tree_of (k - 1) (S D)) b q e)) (λ t. (parts D t).0) (f D (ask.halves here split D h).left)

    -- the range lies in the upper half: what the lower one's word says
    module _ (ge : span / 2 ≤ lo) where
      none : lhi < llo
      none = go (dec_lt lhi llo)
        where
          go : Dec (lhi < llo) → lhi < llo
          go (yes l) = l
          go (no n) =
              let i = cut.left_back llo (omega arith, omega arith) in
              let l = cut.lin in
              absurd (omega arith)

      lower_kept : (D : ℕ → Bool) → L D ≡ tree_of (k - 1) D
      lower_kept D = paint_none (k - 1) b llo lhi D none

      pub lower_apart : (get_or w (p + 1) 0 ≡ leaf_word b → ⊥) → (D : ℕ → Bool) → At w p (tree_of k D) → T D ≡ leaf b → ⊥
      lower_apart n D h t = n (subst (At w (p + 1)) (sym (lower_kept D) ∙ (parts D t).0) (ask.halves here split D h).left).1

      pub upper_turns : get_or w (p + 1) 0 ≡ leaf_word b → (r : Bool) → Right r → (D : ℕ → Bool) → At w p (tree_of k D) → Says r (T D ≡ leaf b)
      upper_turns e r g D h =
          let q = (ask.halves here split D h).left in
          says_map r (λ u. whole D (lower_kept D ∙ at_leaf w (p + 1) (tree_of (k - 1) D) b q e) u) (λ t. (parts D t).1) (g (S D) (ask.right_at here split D h))
