-- One more place is put aside. Assumes nothing.
use Rattle.std.proofs.Common.{◌≡◌, ℕ, zero, suc, ◌+◌, ◌≤◌, ◌<◌, List, ◌∷◌, length, set, refl, ap, ap₂, ◌∙◌, arith, add-one, get_or-set_same, get_or-set_other}
use Rattle.places.specs.declared.Place.{Place}
use Rattle.places.specs.Places.{nowhere, last_first}

pub length_last_first : (places : List Place) (n : ℕ) → length (last_first places n) ≡ n
length_last_first places zero = refl
length_last_first places (suc n) = ap suc (length_last_first places n)

-- a later place is not among the first
first_same : (places : List Place) (n i : ℕ) (at : Place) → n ≤ i → last_first (set places i at) n ≡ last_first places n
first_same places zero i at h = refl
first_same places (suc n) i at h =
    ap₂ (λ (p : Place) (ps : List Place). p ∷ ps) (get_or-set_other places i n at nowhere (λ z. omega arith)) (first_same places n i at (omega arith))

pub pushed : (places : List Place) (n : ℕ) (at : Place) → n < length places → last_first (set places n at) (n + 1) ≡ at ∷ last_first places n
pushed places n at h =
    ap (last_first (set places n at)) (add-one n)
    ∙ ap₂ (λ (p : Place) (ps : List Place). p ∷ ps) (get_or-set_same places n at nowhere h) (first_same places n n at (omega arith))
