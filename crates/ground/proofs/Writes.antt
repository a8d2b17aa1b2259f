-- Laws of a run of writes into a buffer: one run and another after it are one run; so with what is made of numbers, one by one or piece by piece.
-- Assumes nothing.
use Prim.Native.Nat.{ℕ, suc, ◌+◌, ◌*◌}
use native.Mathlib.Nat.{add-zero}
use native.Mathlib.Omega.{arith}
use mathlib.Core.List.{List, [], ◌∷◌, ◌++◌, map, flat_map, map-append}
use mathlib.Core.Path.{◌≡◌, sym, ap, ◌∙◌}
use lib.ListN.{length, set}
use lib.Seq.{sets}
use Rattle.ground.specs.Lists.{below}
use Rattle.ground.proofs.Counting.{below_last, flat_map_next}
use Rattle.ground.proofs.Pieces.{from_length, made_length, all_each, pieces_length}

pub sets_append : {A : Type 0} (l : List A) (i : ℕ) (xs ys : List A) → sets l i (xs ++ ys) ≡ sets (sets l i xs) (i + length xs) ys
sets_append l i [] ys = ap (λ (n : ℕ). sets l n ys) (sym (add-zero i))
sets_append l i (x ∷ xs) ys =
    let e : suc i + length xs ≡ i + suc (length xs) = omega arith in
    sets_append (set l i x) (suc i) xs ys ∙ ap (λ (n : ℕ). sets (sets (set l i x) (suc i) xs) n ys) e

-- after what is made of the first n numbers, what is made of one more
pub one_more : {A : Type 0} (f : ℕ → A) (before : List A) (at n : ℕ) → set (sets before at (map f (below n))) (at + n) (f n) ≡ sets before at (map f (below (n + 1)))
one_more f before at n =
    ap (λ (k : ℕ). set (sets before at (map f (below n))) (at + k) (f n)) (sym (made_length f n))
    ∙ sym (sets_append before at (map f (below n)) (f n ∷ []))
    ∙ ap (sets before at) (sym (ap (map f) (below_last n) ∙ map-append f (below n) (n ∷ [])))

-- pieces of n elements each
module _ {A : Type 0} (piece : ℕ → List A) (n : ℕ) (each : (j : ℕ) → length (piece j) ≡ n) where
  pub made_pieces_length : (m : ℕ) → length (flat_map piece (below m)) ≡ m * n
  made_pieces_length m = pieces_length piece n (below m) (all_each (λ j. length (piece j) ≡ n) each (below m)) ∙ ap (λ (k : ℕ). k * n) (from_length 0 m)

  pub piece_more : (before : List A) (m : ℕ) → sets (sets before 0 (flat_map piece (below m))) (m * n) (piece m) ≡ sets before 0 (flat_map piece (below (m + 1)))
  piece_more before m =
      let place : m * n ≡ 0 + length (flat_map piece (below m)) = omega (arith, made_pieces_length m) in
      ap (λ (at : ℕ). sets (sets before 0 (flat_map piece (below m))) at (piece m)) place
      ∙ sym (sets_append before 0 (flat_map piece (below m)) (piece m))
      ∙ ap (sets before 0) (sym (flat_map_next piece m))
