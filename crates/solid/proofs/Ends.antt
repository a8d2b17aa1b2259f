-- The greater and the lesser of ends, and tests of ends, as code reads them. Assumes nothing.
use native.Mathlib.Omega.{arith}
use mathlib.Core.Bool.{Bool}
use mathlib.Core.Path.{◌≡◌, sym}
use lib.IntN.{ℤ}
use mir.Syntax.{w32}
use mir.Val.{SFits, to_z, of_z}
use mir.ValLaws.{to_z-of_z}
use Rattle.std.proofs.lemmas.Int.{ints}
use Rattle.std.specs.Int.{int_max, int_min}
use Rattle.rules.specs.Ranges.{lesser, greater}

-- the words of `max` and `min` are the rules' own
pub max_greater : (a b : ℤ) → int_max a b ≡ greater a b
max_greater a b = grind (arith, ints)

pub min_lesser : (a b : ℤ) → int_min a b ≡ lesser a b
min_lesser a b = grind (arith, ints)

-- a test of two ends
module _ (test : ℤ → ℤ → Bool) {x y : ℤ} (fx : SFits w32 x) (fy : SFits w32 y) where
  pub as_read : test x y ≡ test (to_z w32 (of_z w32 x)) (to_z w32 (of_z w32 y))
  as_read = λ i. test (sym (to_z-of_z w32 x fx) i) (sym (to_z-of_z w32 y fy) i)
