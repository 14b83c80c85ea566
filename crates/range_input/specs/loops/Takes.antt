-- Values taken from an input behind the first `skip`: what both forms of it have in common. Assumes nothing.
use Rattle.std.specs.Prelude.{ℕ, ◌-◌, ◌*◌, ◌/◌, ◌%◌, ◌≡◌, List, Bool, cond, ◌&&◌, eqb, leb, ℤ, length, Option, Some, None}
use Rattle.words.specs.Lists.{filled}
use Rattle.range_input.specs.Input.{values_from}

-- the skipped values are there, the bytes are a multiple of 4, and at most 8,192 values come behind
abbrev pub takes : ℕ → List ℕ → Bool
takes skip s = leb (4 * skip) (length s) && (eqb (length s % 4) 0 && leb (length s / 4 - skip) 8192)

pub record Takes (skip : ℕ) (s : List ℕ) (col : List ℤ) (r : Option ℕ) (col' : List ℤ) : Type 0 where
  pub answers : r ≡ cond (takes skip s) (Some (length s / 4 - skip)) None
  pub column_is : col' ≡ cond (takes skip s) (filled (values_from s skip (length s / 4 - skip)) col) col
