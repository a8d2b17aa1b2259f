-- Laws of lists: a property of every element, and one list put after another. Assumes nothing.
use Prim.Native.Nat.{ℕ, zero, suc, ◌<◌}
use native.Mathlib.Nat.{not-suc-le-zero, le_of_suc-le-suc}
use native.Mathlib.Omega.{arith}
use mathlib.Core.Bool.{Bool, true, false, ◌||◌}
use mathlib.Core.Option.{none, some}
use mathlib.Core.Path.{◌≡◌, refl, sym, ap, ap₂, subst, ◌∙◌}
use mathlib.Core.List.{List, [], ◌∷◌, ◌++◌, map, flat_map, append_assoc}
use lib.ListN.{length, get_or}
use Rattle.std.specs.Prelude.{if◌then◌else◌}
use Rattle.ground.specs.Lists.{All, any_of, find_if}

module _ {A : Type 0} where
  pub all_append : (P : A → Type 0) (xs ys : List A) → All P xs → All P ys → All P (xs ++ ys)
  all_append P [] ys h k = k
  all_append P (x ∷ xs) ys h k = (h.0, all_append P xs ys h.1 k)

  pub all_at : (P : A → Type 0) (d : A) (xs : List A) → All P xs → (k : ℕ) → k < length xs → P (get_or xs k d)
  all_at P d [] h k l = absurd (not-suc-le-zero l)
  all_at P d (x ∷ xs) h zero l = h.0
  all_at P d (x ∷ xs) h (suc k) l = all_at P d xs h.1 k (le_of_suc-le-suc l)

  pub all_map : (P Q : A → Type 0) → ((x : A) → P x → Q x) → (xs : List A) → All P xs → All Q xs
  all_map P Q f [] h = tt
  all_map P Q f (x ∷ xs) h = (f x h.0, all_map P Q f xs h.1)

  -- what a search finds has what every element has that passes the test; where none passes, it finds none
  pub found : (P : A → Type 0) (test : A → Bool) (xs : List A) → All (λ x. test x ≡ true → P x) xs → {x : A} → find_if test xs ≡ some x → P x
  unfolding find_if
  found P test [] all e = let z : ◌≡◌ {A = ℕ} 0 1 = cc in absurd (omega arith)
  found P test (y ∷ ys) all {x} e = go (test y) refl e (found P test ys all.1)
    where
      go : (b : Bool) → test y ≡ b → (if b then some y else find_if test ys) ≡ some x → (find_if test ys ≡ some x → P x) → P x
      go true h k rest = let s : y ≡ x = cc in subst P s (all.0 h)
      go false h k rest = rest k

  pub not_found : (test : A → Bool) (xs : List A) → All (λ x. test x ≡ false) xs → find_if test xs ≡ none
  unfolding find_if
  not_found test [] h = refl
  not_found test (x ∷ xs) h = rw h.0 (not_found test xs h.1)

module _ {A B : Type 0} where
  -- what is made of each element has the property, so the whole has
  pub all_flat_map : (P : A → Type 0) (Q : B → Type 0) (f : A → List B) → ((x : A) → P x → All Q (f x)) → (xs : List A) → All P xs → All Q (flat_map f xs)
  unfolding flat_map
  all_flat_map P Q f h [] k = tt
  all_flat_map P Q f h (x ∷ xs) k = all_append Q (f x) (flat_map f xs) (h x k.0) (all_flat_map P Q f h xs k.1)

  -- an element of what a map makes, at a place within it
  pub map_at : (f : A → B) (d : A) (e : B) (xs : List A) (k : ℕ) → k < length xs → get_or (map f xs) k e ≡ f (get_or xs k d)
  map_at f d e [] k l = absurd (not-suc-le-zero l)
  map_at f d e (x ∷ xs) zero l = refl
  map_at f d e (x ∷ xs) (suc k) l = map_at f d e xs k (le_of_suc-le-suc l)

  pub flat_map_map : {C : Type 0} (f : B → List C) (g : A → B) (xs : List A) → flat_map f (map g xs) ≡ flat_map (λ x. f (g x)) xs
  unfolding flat_map
  flat_map_map f g [] = refl
  flat_map_map f g (x ∷ xs) = ap (λ ys. f (g x) ++ ys) (flat_map_map f g xs)

  pub flat_map_append : (f : A → List B) (xs ys : List A) → flat_map f (xs ++ ys) ≡ flat_map f xs ++ flat_map f ys
  unfolding flat_map
  flat_map_append f [] ys = refl
  flat_map_append f (x ∷ xs) ys = ap (λ (zs : List B). f x ++ zs) (flat_map_append f xs ys) ∙ sym (append_assoc (f x) (flat_map f xs) (flat_map f ys))

-- ---- some element passes a test

pub any_mapped : {A B : Type 0} (test : B → Bool) (f : A → B) (xs : List A) → any_of test (map f xs) ≡ any_of (λ x. test (f x)) xs
unfolding any_of
any_mapped test f [] = refl
any_mapped test f (x ∷ xs) = ap (λ (b : Bool). test (f x) || b) (any_mapped test f xs)

pub any_same : {A : Type 0} (p q : A → Bool) (xs : List A) → All (λ x. p x ≡ q x) xs → any_of p xs ≡ any_of q xs
unfolding any_of
any_same p q [] h = refl
any_same p q (x ∷ xs) h = ap₂ ◌||◌ h.0 (any_same p q xs h.1)

-- what holds at each place holds of every element
pub all_by_place : {A : Type 0} (P : A → Type 0) (d : A) (xs : List A) → ((k : ℕ) → k < length xs → P (get_or xs k d)) → All P xs
all_by_place P d [] h = tt
all_by_place P d (x ∷ xs) h = (h 0 (omega arith), all_by_place P d xs (λ k l. h (suc k) (omega arith)))
