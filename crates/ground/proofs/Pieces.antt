-- Lists by places and in pieces: a list is what stands at its places, and a list made of pieces of one length has each piece in its place.
-- Assumes nothing.
use Prim.Native.Nat.{ℕ, zero, suc, ◌+◌, ◌*◌, ◌≤◌, ◌<◌}
use native.Mathlib.Nat.{add-zero, zero-add}
use native.Mathlib.Omega.{arith}
use mathlib.Core.List.{List, [], ◌∷◌, ◌++◌, map, flat_map, append_assoc}
use mathlib.Core.Path.{◌≡◌, refl, sym, ap, ◌∙◌}
use lib.ListN.{length, get_or, take, drop, length-append, length-map, get_or-append}
use lib.Seq.{get_or-append-add, take_at, drop-append-add}
use Rattle.ground.specs.Lists.{from, below, All}
use Rattle.ground.proofs.Lists.{map_at}

pub from_length : (start n : ℕ) → length (from start n) ≡ n
unfolding from
from_length start zero = refl
from_length start (suc n) = ap suc (from_length (suc start) n)

from_at : (start n k : ℕ) → k < n → get_or (from start n) k 0 ≡ start + k
unfolding from
from_at start zero k l = absurd (omega arith)
from_at start (suc n) zero l = sym (add-zero start)
from_at start (suc n) (suc k) l = let on : suc start + k ≡ start + suc k = omega arith in from_at (suc start) n k (omega arith) ∙ on

pub below_at : (n k : ℕ) → k < n → get_or (below n) k 0 ≡ k
below_at n k l = from_at 0 n k l ∙ zero-add k

-- what is made of each of the numbers: how many there are, and what stands at place k
module _ {A : Type 0} (f : ℕ → A) where
  pub made_length : (n : ℕ) → length (map f (below n)) ≡ n
  made_length n = length-map (below n) f ∙ from_length 0 n

  pub made_at : (d : A) (n k : ℕ) → k < n → get_or (map f (below n)) k d ≡ f k
  made_at d n k l = map_at f 0 d (below n) k (omega (arith, from_length 0 n, l)) ∙ ap f (below_at n k l)

module _ {A : Type 0} where
  pub all_each : (P : A → Type 0) → ((x : A) → P x) → (xs : List A) → All P xs
  all_each P h [] = tt
  all_each P h (x ∷ xs) = (h x, all_each P h xs)

  -- what every element has, and what stands past the end has too
  pub all_places : (P : A → Type 0) (d : A) → P d → (xs : List A) → All P xs → (k : ℕ) → P (get_or xs k d)
  all_places P d p [] h k = p
  all_places P d p (x ∷ xs) h zero = h.0
  all_places P d p (x ∷ xs) h (suc k) = all_places P d p xs h.1 k

  -- what gives, for each place of a list, just the element there, gives the list
  module _ (f : ℕ → List A) (d : A) where
    places_from : (start : ℕ) (xs : List A) → ((k : ℕ) → k < length xs → f (start + k) ≡ get_or xs k d ∷ []) → flat_map f (from start (length xs)) ≡ xs
    unfolding from flat_map
    places_from start [] h = refl
    places_from start (x ∷ xs) h =
        let first : f start ≡ x ∷ [] = ap f (sym (add-zero start)) ∙ h 0 (omega arith) in
        let others : flat_map f (from (suc start) (length xs)) ≡ xs
        = places_from (suc start) xs (λ k l. let on : suc start + k ≡ start + suc k = omega arith in ap f on ∙ h (suc k) (omega arith)) in
        λ i. first i ++ others i

    pub places : (xs : List A) → ((k : ℕ) → k < length xs → f k ≡ get_or xs k d ∷ []) → flat_map f (below (length xs)) ≡ xs
    places xs h = places_from 0 xs (λ k l. ap f (zero-add k) ∙ h k l)

  map_single : (f : ℕ → A) (ks : List ℕ) → map f ks ≡ flat_map (λ k. f k ∷ []) ks
  unfolding flat_map
  map_single f [] = refl
  map_single f (k ∷ ks) = ap (λ (xs : List A). f k ∷ xs) (map_single f ks)

  pub map_places : (f : ℕ → A) (d : A) (xs : List A) → ((k : ℕ) → k < length xs → f k ≡ get_or xs k d) → map f (below (length xs)) ≡ xs
  map_places f d xs h = map_single f (below (length xs)) ∙ places (λ k. f k ∷ []) d xs (λ k l. ap (λ (x : A). x ∷ []) (h k l))

pub all_mapped : {A B : Type 0} (P : B → Type 0) (f : A → B) → ((x : A) → P (f x)) → (xs : List A) → All P (map f xs)
all_mapped P f h [] = tt
all_mapped P f h (x ∷ xs) = (h x, all_mapped P f h xs)

module _ {A B : Type 0} (f : A → List B) where
  -- pieces of at most so many elements each
  pub pieces_most : (most : ℕ) (xs : List A) → All (λ x. length (f x) ≤ most) xs → length (flat_map f xs) ≤ length xs * most
  unfolding flat_map
  pieces_most most [] h = omega arith
  pieces_most most (x ∷ xs) h = simp length-append (omega (arith, h.0, pieces_most most xs h.1))

  -- pieces of n elements each
  module _ (n : ℕ) where
    pub pieces_length : (xs : List A) → All (λ x. length (f x) ≡ n) xs → length (flat_map f xs) ≡ length xs * n
    unfolding flat_map
    pieces_length [] h = omega arith
    pieces_length (x ∷ xs) h = simp length-append (omega (arith, h.0, pieces_length xs h.1))

    pub piece_at : (d : A) (e : B) (xs : List A) → All (λ x. length (f x) ≡ n) xs → (k i : ℕ) → k < length xs → i < n
        → get_or (flat_map f xs) (k * n + i) e ≡ get_or (f (get_or xs k d)) i e
    unfolding flat_map
    piece_at d e [] h k i l m = absurd (omega arith)
    piece_at d e (x ∷ xs) h zero i l m =
        let here : 0 * n + i ≡ i = omega arith in
        ap (λ (j : ℕ). get_or (f x ++ flat_map f xs) j e) here ∙ get_or-append (f x) (flat_map f xs) e i (omega (arith, h.0))
    piece_at d e (x ∷ xs) h (suc k) i l m =
        let on : suc k * n + i ≡ length (f x) + (k * n + i) = omega (arith, h.0) in
        ap (λ (j : ℕ). get_or (f x ++ flat_map f xs) j e) on
        ∙ get_or-append-add (f x) (flat_map f xs) (k * n + i) e
        ∙ piece_at d e xs h.1 k i (omega arith) m

-- a piece of n elements for each number: that of number k stands whole in its place, whatever follows the last
module _ {A : Type 0} (f : ℕ → List A) (n : ℕ) (each : (k : ℕ) → length (f k) ≡ n) where
  piece_from : (start m : ℕ) (more : List A) (k : ℕ) → k < m → take n (drop (n * k) (flat_map f (from start m) ++ more)) ≡ f (start + k)
  unfolding from flat_map
  piece_from start zero more k l = absurd (omega arith)
  piece_from start (suc m) more zero l =
      let here : n * 0 ≡ 0 = omega arith in
      let others = flat_map f (from (suc start) m) in
      (λ i. take n (drop (here i) (append_assoc (f start) others more i))) ∙ take_at (f start) (others ++ more) n (each start) ∙ ap f (sym (add-zero start))
  piece_from start (suc m) more (suc k) l =
      let there : n * suc k ≡ length (f start) + n * k = omega (arith, each start) in
      let others = flat_map f (from (suc start) m) in
      let on : suc start + k ≡ start + suc k = omega arith in
      (λ i. take n (drop (there i) (append_assoc (f start) others more i)))
      ∙ ap (take n) (drop-append-add (f start) (others ++ more) (n * k))
      ∙ piece_from (suc start) m more k (omega arith)
      ∙ ap f on

  pub piece_below : (m : ℕ) (more : List A) (k : ℕ) → k < m → take n (drop (n * k) (flat_map f (below m) ++ more)) ≡ f k
  piece_below m more k l = piece_from 0 m more k l ∙ ap f (zero-add k)
