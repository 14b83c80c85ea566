-- What the checks of an index's words say: borders, and words that are the packed form of so many lines. Assumes nothing.
use Prim.Native.Nat.{ℕ}
use mathlib.Core.Path.{◌≡◌, refl, sym, ap₂}
use mathlib.Core.List.{List}
use mathlib.Core.Bool.{Bool, true, false, cond, not}
use native.Mathlib.Omega.{arith}
use lib.IntN.{ℤ}
use Rattle.std.specs.Prelude.{Result, Ok, Err, ⊤}
use Rattle.bins.specs.Bins.{Kind, good_borders, bins}
use Rattle.dictionary.specs.Dictionary.{accepted}
use Rattle.column_index.specs.Promise.{checked_lines}
use Rattle.column_index.specs.declared.IndexRefusal.{IndexRefusal}
use Rattle.column_index.specs.declared.IndexRefusal.TheVariants.{NoIndex, BadBorders}

-- by whether the borders are good and the words an index
abbrev pub by_tests : (g a : Bool) → Result ⊤ IndexRefusal
by_tests g a = cond (not g) (Err BadBorders) (cond (not a) (Err NoIndex) (Ok tt))

module _ (k : Kind) (lines : ℕ) (bs : List ℤ) (is ds : List ℕ) where
  pub lines_tested : (g a : Bool) → good_borders bs ≡ g → accepted k.full (bins bs) lines ds is ≡ a → by_tests g a ≡ checked_lines k lines bs is ds
  lines_tested g a p q = sym (ap₂ by_tests p q)

  -- bad borders, whatever the words
  pub lines_bad_borders : good_borders bs ≡ false → Err BadBorders ≡ checked_lines k lines bs is ds
  lines_bad_borders p = lines_tested false (accepted k.full (bins bs) lines ds is) p refl

  -- what a passed check says
  pub lines_passed : checked_lines k lines bs is ds ≡ Ok tt → (good_borders bs ≡ true) × (accepted k.full (bins bs) lines ds is ≡ true)
  lines_passed e = go (good_borders bs) refl (accepted k.full (bins bs) lines ds is) refl e
    where
      go : (g : Bool) → good_borders bs ≡ g → (a : Bool) → accepted k.full (bins bs) lines ds is ≡ a → by_tests g a ≡ Ok tt → (good_borders bs ≡ true) × (accepted k.full (bins bs) lines ds is ≡ true)
      go false p a q e = absurd (let z : ◌≡◌ {A = ℕ} 0 1 = cc in omega arith)
      go true p false q e = absurd (let z : ◌≡◌ {A = ℕ} 0 1 = cc in omega arith)
      go true p true q e = (p, q)
