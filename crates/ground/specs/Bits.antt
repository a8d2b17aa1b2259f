-- A number as a set of places: place i is in it when bit i is set. Bit 0 is n % 2, and bit i + 1 is bit i of n / 2.
use Rattle.std.specs.Prelude.{ℕ, ◌+◌, ◌*◌, ◌/◌, ◌%◌, Bool, ◌&&◌, List, [], ◌∷◌, eqb, if◌then◌else◌}

abbrev pub odd : ℕ → Bool
odd n = eqb (n % 2) 1

module _ {A : Type 0} where
  -- the elements that stand at the places of a set
  unfoldable pub selected : ℕ → List A → List A
  selected set [] = []
  selected set (x ∷ xs) = if odd set then x ∷ selected (set / 2) xs else selected (set / 2) xs

  -- the set of the places at which the test holds
  unfoldable pub places_of : (A → Bool) → List A → ℕ
  places_of test [] = 0
  places_of test (x ∷ xs) = (if test x then 1 else 0) + 2 * places_of test xs

  -- the places of a set at which the test holds
  unfoldable pub places_where : (A → Bool) → ℕ → List A → ℕ
  places_where test set [] = 0
  places_where test set (x ∷ xs) = (if odd set && test x then 1 else 0) + 2 * places_where test (set / 2) xs
