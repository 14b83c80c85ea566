-- The open entry that is read off the last words of any words, a packing or not, is steady. Assumes nothing.
use Prim.Native.Nat.{ℕ, ◌-◌}
use mathlib.Core.Path.{◌≡◌, refl}
use mathlib.Core.List.{List}
use mathlib.Core.Bool.{Bool, true, false, cond}
use native.Mathlib.Omega.{arith}
use lib.Dec.{eqb}
use lib.ListN.{length}
use borrow.Author.Tests.{eqb-false}
use Rattle.words.specs.Numbers.{largest}
use Rattle.dictionary.specs.Dictionary.{count_of, repeated}
use Rattle.dictionary.specs.loops.Packer.{Steady, packer, starting}
use Rattle.told_words.specs.loops.TakenUp.{from_end, runs_on, open_again, after_all}

module _ (full : ℕ) where
  pub steady_all : (ds is : List ℕ) → Steady largest (after_all full ds is).state
  steady_all ds is = let d = from_end 1 ds in go (eqb (count_of d) 0) (repeated d) (runs_on full (count_of d) (from_end 2 ds) is) refl
    where
      go : (b r s : Bool) → eqb (count_of (from_end 1 ds)) 0 ≡ b → Steady largest (cond b starting (packer (open_again r s (count_of (from_end 1 ds)) (from_end 1 is)) (length ds - 1) (length is))).state
      go true r s e = (omega arith, omega arith)
      go false true s e = (omega (arith, eqb-false (count_of (from_end 1 ds)) 0 e), omega arith)
      go false false true e = (omega arith, omega arith)
      go false false false e = (omega (arith, eqb-false (count_of (from_end 1 ds)) 0 e), omega arith)
