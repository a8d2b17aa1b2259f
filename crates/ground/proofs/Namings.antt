-- How often the numbers of a list are named, and how such counts grow. Assumes nothing.
use Prim.Native.Nat.{ℕ, zero, suc, ◌+◌, ◌≤◌, ◌<◌}
use native.Mathlib.Nat.{le_refl, le_trans, le_of_suc-le-suc, eq-or-lt_of_le, zero-add}
use native.Mathlib.Numerals.{add-one}
use native.Mathlib.Omega.{arith}
use mathlib.Core.Bool.{Bool, true, false}
use mathlib.Core.List.{List, [], ◌∷◌, ◌++◌, flat_map}
use mathlib.Core.Logic.{⊎_elim}
use mathlib.Core.Path.{◌≡◌, refl, sym, ap, ◌∙◌}
use borrow.Author.Tests.{eqb-true, eqb-false, ltb-true, ltb-false, le-ltb}
use lib.Dec.{eqb, ltb}
use lib.ListN.{length}
use Rattle.std.specs.Prelude.{if◌then◌else◌}
use Rattle.ground.specs.Lists.{below, count_if}
use Rattle.ground.proofs.Counting.{flat_map_next}

-- what the rows up to one give, from what those before it give
pub next_row : {B : Type 0} (f : ℕ → List B) (row : ℕ) → flat_map f (below (suc row)) ≡ flat_map f (below row) ++ f row
next_row f row = ap (λ (k : ℕ). flat_map f (below k)) (sym (add-one row)) ∙ flat_map_next f row

pub rising : (g : ℕ → ℕ) → ((k : ℕ) → g k ≤ g (suc k)) → (a b : ℕ) → a ≤ b → g a ≤ g b
rising g up a zero h = let e : a ≡ 0 = omega arith in rw e (le_refl (g 0))
rising g up a (suc b) h =
    ⊎_elim (λ e. rw e (le_refl (g (suc b)))) (λ l. le_trans (rising g up a b (le_of_suc-le-suc l)) (up b)) (eq-or-lt_of_le h)

module _ {A : Type 0} (test : A → Bool) where
  pub count_append : (xs ys : List A) → count_if test (xs ++ ys) ≡ count_if test xs + count_if test ys
  unfolding count_if
  count_append [] ys = sym (zero-add (count_if test ys))
  count_append (x ∷ xs) ys = go (test x) (count_append xs ys)
    where
      go : (b : Bool) → count_if test (xs ++ ys) ≡ count_if test xs + count_if test ys
          → (if b then suc (count_if test (xs ++ ys)) else count_if test (xs ++ ys)) ≡ (if b then suc (count_if test xs) else count_if test xs) + count_if test ys
      go true e = omega arith
      go false e = e

  pub count_most : (xs : List A) → count_if test xs ≤ length xs
  unfolding count_if
  count_most [] = omega arith
  count_most (x ∷ xs) = go (test x) (count_most xs)
    where
      go : (b : Bool) → count_if test xs ≤ length xs → (if b then suc (count_if test xs) else count_if test xs) ≤ suc (length xs)
      go true h = omega arith
      go false h = omega arith

-- the numbers up to m in a list are those below m and those that are m
pub count_step : (m : ℕ) (xs : List ℕ) → count_if (λ x. ltb x (suc m)) xs ≡ count_if (λ x. ltb x m) xs + count_if (eqb m) xs
unfolding count_if
count_step m [] = refl
count_step m (x ∷ xs) = go (ltb x (suc m)) (ltb x m) (eqb m x) refl refl refl (count_step m xs)
  where
    go : (s l e : Bool) → ltb x (suc m) ≡ s → ltb x m ≡ l → eqb m x ≡ e
        → count_if (λ x. ltb x (suc m)) xs ≡ count_if (λ x. ltb x m) xs + count_if (eqb m) xs
        → (if s then suc (count_if (λ x. ltb x (suc m)) xs) else count_if (λ x. ltb x (suc m)) xs)
        ≡ (if l then suc (count_if (λ x. ltb x m) xs) else count_if (λ x. ltb x m) xs) + (if e then suc (count_if (eqb m) xs) else count_if (eqb m) xs)
    go true true true a b c ih = absurd (omega (arith, ltb-true x m b, eqb-true m x c))
    go true true false a b c ih = omega arith
    go true false true a b c ih = omega arith
    go true false false a b c ih = absurd (eqb-false m x c (omega (arith, ltb-true x (suc m) a, ltb-false x m b)))
    go false true e a b c ih = absurd (omega (arith, ltb-false x (suc m) a, ltb-true x m b))
    go false false true a b c ih = absurd (omega (arith, ltb-false x (suc m) a, eqb-true m x c))
    go false false false a b c ih = ih

-- no number is below 0
pub none_below : (xs : List ℕ) → count_if (λ x. ltb x 0) xs ≡ 0
unfolding count_if
none_below [] = refl
none_below (x ∷ xs) = rw (le-ltb x 0 (omega arith)) (none_below xs)

-- a list that names each number below m once has m elements that are below m
pub names_exact : (xs : List ℕ) (m : ℕ) → ((i : ℕ) → i < m → count_if (eqb i) xs ≡ 1) → count_if (λ x. ltb x m) xs ≡ m
names_exact xs zero h = none_below xs
names_exact xs (suc m) h = rw (count_step m xs) (omega (arith, names_exact xs m (λ i l. h i (omega arith)), h m (omega arith)))
