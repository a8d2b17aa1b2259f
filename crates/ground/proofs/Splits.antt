-- A run of numbers that ends at the first one below a limit is found again: it can be split in one way only. Assumes nothing.
use Prim.Native.Nat.{ℕ, ◌≤◌, ◌<◌}
use native.Mathlib.Omega.{arith}
use mathlib.Core.Path.{◌≡◌, refl, sym}
use mathlib.Core.List.{List, [], ◌∷◌, ◌++◌, head-eq_of_cons-eq, tail-eq_of_cons-eq}
use Rattle.ground.specs.Lists.{All}

module _ (limit : ℕ) where
  abbrev pub Run : List ℕ → Type 0
  Run xs = All (λ x. limit ≤ x) xs

  abbrev pub Stop : List ℕ → Type 0
  Stop [] = ⊥
  Stop (x ∷ xs) = x < limit

  stop_first : (x : ℕ) (xs ys : List ℕ) → limit ≤ x → Stop ys → ys ≡ x ∷ xs → ⊥
  stop_first x xs [] h s e = s
  stop_first x xs (y ∷ ys) h s e = let d : y ≡ x = head-eq_of_cons-eq e in omega arith

  pub split_once : (xs ys us vs : List ℕ) → Run xs → Run ys → Stop us → Stop vs → xs ++ us ≡ ys ++ vs → (xs ≡ ys) × (us ≡ vs)
  split_once [] [] us vs p q s t e = (refl, e)
  split_once [] (y ∷ ys) us vs p q s t e = absurd (stop_first y (ys ++ vs) us q.0 s e)
  split_once (x ∷ xs) [] us vs p q s t e = absurd (stop_first x (xs ++ us) vs p.0 t (sym e))
  split_once (x ∷ xs) (y ∷ ys) us vs p q s t e =
      let r : (xs ≡ ys) × (us ≡ vs) = split_once xs ys us vs p.1 q.1 s t (tail-eq_of_cons-eq e) in
      let h : x ≡ y = head-eq_of_cons-eq e in
      ((λ i. h i ∷ r.0 i), r.1)
