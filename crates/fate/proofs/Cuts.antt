-- A box that the primitives cut from the last to the first: what the last of them leaves for the others. Assumes nothing.
use Prim.Native.Nat.{ℕ, ◌+◌, ◌/◌, ◌^◌}
use native.Mathlib.Decide.{ℕ_discrete}
use mathlib.Core.Bool.{Bool, true, false, ◌&&◌}
use mathlib.Core.List.{List, [], ◌∷◌, ◌++◌, foldr, append-nil}
use mathlib.Core.Option.{some}
use mathlib.Core.Path.{◌≡◌, refl, sym, ap, ◌∙◌}
use borrow.Author.Tests.{eq-eqb, ne_eqb}
use lib.Bits.{bit_and}
use lib.IntN.{ℤ}
use lib.ListN.{length}
use Rattle.ground.specs.Bits.{odd, selected}
use Rattle.std.specs.Prelude.{if◌then◌else◌}
use Rattle.ground.proofs.Masks.{has, has_and, has_one, has_none, same_places}
use Rattle.rules.specs.declared.Primitive.{Primitive}
use Rattle.rules.specs.declared.Product.{Product}
use Rattle.rules.specs.declared.Row.TheVariants.{Solid}
use Rattle.rules.specs.Boxes.{Box, common_box}
use Rattle.rules.specs.Products.{box_of}
use Rattle.rules.specs.Table.{row_at, solid_of, primitives_before}
use Rattle.reach.proofs.Gathering.{next_solids}
use Rattle.fate.specs.Fates.{cut_by}

-- ---- the last of a list

module _ {A : Type 0} where
  selected_last : (set : ℕ) (xs : List A) (x : A) → selected set (xs ++ (x ∷ [])) ≡ selected set xs ++ (if has (length xs) set then x ∷ [] else [])
  unfolding selected has
  selected_last set [] x = refl
  selected_last set (y ∷ ys) x = go (odd set) (selected_last (set / 2) ys x)
    where
      last : List A
      last = if has (length ys) (set / 2) then x ∷ [] else []

      go : (o : Bool) → selected (set / 2) (ys ++ (x ∷ [])) ≡ selected (set / 2) ys ++ last
          → (if o then y ∷ selected (set / 2) (ys ++ (x ∷ [])) else selected (set / 2) (ys ++ (x ∷ [])))
          ≡ (if o then y ∷ selected (set / 2) ys else selected (set / 2) ys) ++ last
      go true e = ap (λ (zs : List A). y ∷ zs) e
      go false e = e

  folded : {B : Type 0} (f : A → B → B) (z : B) (xs ys : List A) → foldr f z (xs ++ ys) ≡ foldr f (foldr f z ys) xs
  folded f z [] ys = refl
  folded f z (x ∷ xs) ys = ap (f x) (folded f z xs ys)

-- ---- one bit

-- a set that a bit misses does not have its place, and one that it meets does
module _ (i set : ℕ) where
  place : has i (bit_and (2 ^ i) set) ≡ has i set
  place = has_and i (2 ^ i) set ∙ ap (λ (t : Bool). t && has i set) (has_one i i ∙ eq-eqb i i refl)

  pub missed : bit_and (2 ^ i) set ≡ 0 → has i set ≡ false
  missed e = sym place ∙ ap (has i) e ∙ has_none i

  pub met : (bit_and (2 ^ i) set ≡ 0 → ⊥) → has i set ≡ true
  met there = go (has i set) refl
    where
      go : (t : Bool) → has i set ≡ t → t ≡ true
      go true e = refl
      go false e = absurd (there (same_places (bit_and (2 ^ i) set) 0 (λ j. at j (ℕ_discrete j i))))
        where
          at : (j : ℕ) → Dec (j ≡ i) → has j (bit_and (2 ^ i) set) ≡ has j 0
          at j (yes h) = ap (λ (k : ℕ). has k (bit_and (2 ^ i) set)) h ∙ place ∙ e ∙ sym (has_none j)
          at j (no h) = has_and j (2 ^ i) set ∙ ap (λ (t : Bool). t && has j set) (has_one j i ∙ ne_eqb j i h) ∙ sym (has_none j)

-- ---- one row

-- what the rows before a row make of a box that it has cut is what they and it make of the box
module _ (t : List ℤ) (row : ℕ) (c : Product) (b : Box) where
  pub passes : solid_of (row_at t row) ≡ [] → cut_by c (primitives_before t row) b ≡ cut_by c (primitives_before t (row + 1)) b
  passes none = ap (λ (ps : List Primitive). cut_by c ps b) (sym (append-nil (primitives_before t row)) ∙ next_solids t row none)

  module _ {s : Primitive} (e : row_at t row ≡ some (Solid s)) {bit : ℕ} (is : bit ≡ 2 ^ length (primitives_before t row)) where
    abbrev before : List Primitive
    before = primitives_before t row

    last : cut_by c before (if has (length before) c.plain then common_box (box_of s) b else b) ≡ cut_by c (primitives_before t (row + 1)) b
    last =
        sym (ap (λ (ps : List Primitive). foldr cut b ps) (selected_last c.plain before s)
        ∙ folded cut b (selected c.plain before) (if has (length before) c.plain then s ∷ [] else [])
        ∙ ap (λ (z : Box). foldr cut z (selected c.plain before)) (go (has (length before) c.plain)))
        ∙ ap (λ (ps : List Primitive). cut_by c ps b) (next_solids t row (ap solid_of e))
      where
        cut : Primitive → Box → Box
        cut p rest = common_box (box_of p) rest

        go : (o : Bool) → foldr cut b (if o then s ∷ [] else []) ≡ (if o then cut s b else b)
        go true = refl
        go false = refl

    pub not_chosen : bit_and bit c.plain ≡ 0 → cut_by c before b ≡ cut_by c (primitives_before t (row + 1)) b
    not_chosen z =
        sym (ap (λ (o : Bool). cut_by c before (if o then common_box (box_of s) b else b)) (missed (length before) c.plain (ap (λ (n : ℕ). bit_and n c.plain) (sym is) ∙ z)))
        ∙ last

    pub chosen : (bit_and bit c.plain ≡ 0 → ⊥) → {cut : Box} → cut ≡ common_box (box_of s) b → cut_by c before cut ≡ cut_by c (primitives_before t (row + 1)) b
    chosen z k =
        ap (cut_by c before) k
        ∙ sym (ap (λ (o : Bool). cut_by c before (if o then common_box (box_of s) b else b)) (met (length before) c.plain (λ w. z (ap (λ (n : ℕ). bit_and n c.plain) is ∙ w))))
        ∙ last
