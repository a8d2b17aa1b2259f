-- Lists: numbers in a row, and what a test finds in a list.
use Rattle.std.specs.Prelude.{ℕ, zero, suc, ◌-◌, Bool, true, false, ◌&&◌, ◌||◌, List, [], ◌∷◌, map, ◌⊎◌, if◌then◌else◌}
use Rattle.std.proofs.Math.Option.{Option, none, some}

-- n numbers from `start` on, rising
unfoldable pub from : ℕ → ℕ → List ℕ
from start zero = []
from start (suc n) = start ∷ from (suc start) n

-- the numbers k .. n - 1
abbrev pub rest : ℕ → ℕ → List ℕ
rest k n = from k (n - k)

-- 0, 1, 2 .. up to n - 1
abbrev pub below : ℕ → List ℕ
below n = from 0 n

module _ {A : Type 0} where
  -- the test holds of each element; of some element
  unfoldable pub all_of : (A → Bool) → List A → Bool
  all_of test [] = true
  all_of test (x ∷ xs) = test x && all_of test xs

  unfoldable pub any_of : (A → Bool) → List A → Bool
  any_of test [] = false
  any_of test (x ∷ xs) = test x || any_of test xs

  -- the elements of which the test holds, in order; how many there are; the first of them
  unfoldable pub keep_if : (A → Bool) → List A → List A
  keep_if test [] = []
  keep_if test (x ∷ xs) = if test x then x ∷ keep_if test xs else keep_if test xs

  unfoldable pub count_if : (A → Bool) → List A → ℕ
  count_if test [] = 0
  count_if test (x ∷ xs) = if test x then suc (count_if test xs) else count_if test xs

  unfoldable pub find_if : (A → Bool) → List A → Option A
  find_if test [] = none
  find_if test (x ∷ xs) = if test x then some x else find_if test xs

  -- the first element that is there
  abbrev pub or_else : Option A → Option A → Option A
  or_else none other = other
  or_else (some x) other = some x

  unfoldable pub first_of : List (Option A) → Option A
  first_of [] = none
  first_of (x ∷ xs) = or_else x (first_of xs)

  -- a rule for each of the numbers k .. n - 1: what the first that is broken gives
  abbrev pub rulings : (ℕ → Option A) → ℕ → ℕ → Option A
  rulings rule k n = first_of (map rule (rest k n))

  -- every element has the property
  abbrev pub All : (A → Type 0) → List A → Type 0
  All P [] = Unit {0}
  All P (x ∷ xs) = P x × All P xs

  -- some element has it
  abbrev pub Some : (A → Type 0) → List A → Type 0
  Some P [] = ⊥
  Some P (x ∷ xs) = P x ⊎ Some P xs
