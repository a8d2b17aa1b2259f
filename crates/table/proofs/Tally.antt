-- Counting the children in an array: the array holds the counts that the rules speak of. Assumes nothing.
use Prim.Native.Nat.{ℕ, zero, suc, ◌+◌, ◌*◌, ◌≤◌, ◌<◌}
use native.Mathlib.Nat.{zero-add}
use native.Mathlib.Numerals.{add-one}
use native.Mathlib.Decide.{ℕ_discrete}
use native.Mathlib.Omega.{arith}
use mathlib.Core.Bool.{Bool, true, false}
use mathlib.Core.List.{List, [], ◌∷◌, ◌++◌, flat_map, cons≢nil}
use mathlib.Core.Option.{Option, none, some}
use mathlib.Core.Path.{◌≡◌, refl, sym, ap, subst, ◌∙◌}
use borrow.Author.Tests.{eq-eqb, ne_eqb}
use lib.Dec.{eqb}
use lib.IntN.{ℤ}
use lib.ListN.{length, get_or, replicate, length-set, length-append, length-replicate, get_or-replicate}
use lib.Seq.{get_or-set_same, get_or-set_other}
use Rattle.std.specs.Prelude.{if◌then◌else◌}
use Rattle.ground.specs.Lists.{from, count_if}
use Rattle.ground.proofs.Counting.{flat_map_next}
use Rattle.rules.specs.declared.Row.{Row}
use Rattle.rules.specs.declared.Row.TheVariants.{Solid, Union, Inter, Diff}
use Rattle.rules.specs.Table.{row_at}
use Rattle.rules.specs.Verdict.{children_of}
use Rattle.laws.specs.Sound.{RowRight, SoundRow}
use Rattle.table.specs.Reading.{bumped, tallied, children_to, times_to}

pub tallied_append : (l xs ys : List ℕ) → tallied l (xs ++ ys) ≡ tallied (tallied l xs) ys
unfolding tallied
tallied_append l [] ys = refl
tallied_append l (x ∷ xs) ys = tallied_append (bumped l x) xs ys

pub tallied_length : (l xs : List ℕ) → length (tallied l xs) ≡ length l
unfolding tallied
tallied_length l [] = refl
tallied_length l (x ∷ xs) = tallied_length (bumped l x) xs ∙ length-set l x (get_or l x 0 + 1)

bumped_at : (l : List ℕ) (x j : ℕ) → j < length l → get_or (bumped l x) j 0 ≡ (if eqb j x then suc (get_or l j 0) else get_or l j 0)
bumped_at l x j h = go (ℕ_discrete j x)
  where
    go : Dec (j ≡ x) → get_or (bumped l x) j 0 ≡ (if eqb j x then suc (get_or l j 0) else get_or l j 0)
    go (yes e) =
        rw (eq-eqb j x e)
        (subst (λ (i : ℕ). get_or (bumped l i) j 0 ≡ suc (get_or l j 0)) e (get_or-set_same l j (get_or l j 0 + 1) 0 h ∙ add-one (get_or l j 0)))
    go (no n) = rw (ne_eqb j x n) (get_or-set_other l x j (get_or l x 0 + 1) 0 n)

pub bumped_few : (l : List ℕ) (x j : ℕ) → j < length l → get_or (bumped l x) j 0 ≤ get_or l j 0 + 1
bumped_few l x j h = subst (λ (n : ℕ). n ≤ get_or l j 0 + 1) (sym (bumped_at l x j h)) (go (eqb j x))
  where
    go : (b : Bool) → (if b then suc (get_or l j 0) else get_or l j 0) ≤ get_or l j 0 + 1
    go true = omega arith
    go false = omega arith

pub tallied_at : (l xs : List ℕ) (j : ℕ) → j < length l → get_or (tallied l xs) j 0 ≡ get_or l j 0 + count_if (eqb j) xs
unfolding tallied count_if
tallied_at l [] j h = omega arith
tallied_at l (x ∷ xs) j h =
    let l' : length (bumped l x) ≡ length l = length-set l x (get_or l x 0 + 1) in
    tallied_at (bumped l x) xs j (omega arith) ∙ ap (λ (n : ℕ). n + count_if (eqb j) xs) (bumped_at l x j h) ∙ go (eqb j x)
  where
    go : (b : Bool) → (if b then suc (get_or l j 0) else get_or l j 0) + count_if (eqb j) xs ≡ get_or l j 0 + (if b then suc (count_if (eqb j) xs) else count_if (eqb j) xs)
    go true = omega arith
    go false = refl

count_le : (test : ℕ → Bool) (xs : List ℕ) → count_if test xs ≤ length xs
unfolding count_if
count_le test [] = omega arith
count_le test (x ∷ xs) = go (test x) (count_le test xs)
  where
    go : (b : Bool) → count_if test xs ≤ length xs → (if b then suc (count_if test xs) else count_if test xs) ≤ suc (length xs)
    go true h = omega arith
    go false h = omega arith

-- one row more
module _ (t : List ℤ) (row : ℕ) where
  pub children_more : children_to t (row + 1) ≡ children_to t row ++ children_of (row_at t row)
  children_more = flat_map_next (λ r. children_of (row_at t r)) row

two : (r : Option Row) → length (children_of r) ≤ 2
two none = omega arith
two (some (Solid s)) = omega arith
two (some (Union l r)) = omega arith
two (some (Inter l r)) = omega arith
two (some (Diff l r)) = omega arith

pub children_few : (t : List ℤ) (n : ℕ) → length (children_to t n) ≤ 2 * n
unfolding flat_map from
children_few t zero = omega arith
children_few t (suc n) =
    let more : children_to t (suc n) ≡ children_to t n ++ children_of (row_at t n) = ap (children_to t) (sym (add-one n)) ∙ children_more t n in
    let sum : length (children_to t (suc n)) ≡ length (children_to t n) + length (children_of (row_at t n)) = ap length more ∙ length-append (children_to t n) (children_of (row_at t n)) in
    omega (arith, children_few t n, two (row_at t n))

-- the two children of a sound row are earlier rows
pub two_earlier : {t : List ℤ} {row l r : ℕ} → SoundRow t row → (l ∷ r ∷ []) ≡ children_of (row_at t row) → (l < row) × (r < row)
two_earlier {t} {row} {l} {r} s e = go s.reads s.right (e ∙ ap children_of s.is)
  where
    pair : {a b : ℕ} → (a < row) × (b < row) → (l ∷ r ∷ []) ≡ (a ∷ b ∷ []) → (l < row) × (r < row)
    pair {a} {b} h e = let p : l ≡ a = cc in let q : r ≡ b = cc in (omega arith, omega arith)

    go : (x : Row) → RowRight row x → (l ∷ r ∷ []) ≡ children_of (some x) → (l < row) × (r < row)
    go (Solid s) h e = absurd (cons≢nil e)
    go (Union a b) h e = pair h e
    go (Inter a b) h e = pair h e
    go (Diff a b) h e = pair h e

-- a tally from nothing: what it holds, and that it fits a byte
pub times_length : (t : List ℤ) (n : ℕ) → length (times_to t n) ≡ 127
times_length t n = tallied_length (replicate 127 0) (children_to t n) ∙ length-replicate {A = ℕ} 127 0

module _ (t : List ℤ) (n j : ℕ) (h : j < 127) where
  pub times_at : get_or (times_to t n) j 0 ≡ count_if (eqb j) (children_to t n)
  times_at =
      tallied_at (replicate 127 0) (children_to t n) j (subst (λ (k : ℕ). j < k) (sym (length-replicate {A = ℕ} 127 0)) h)
      ∙ ap (λ (k : ℕ). k + count_if (eqb j) (children_to t n)) (get_or-replicate 127 j 0 0 h)
      ∙ zero-add (count_if (eqb j) (children_to t n))

  pub times_few : get_or (times_to t n) j 0 ≤ 2 * n
  times_few = omega (arith, times_at, count_le (eqb j) (children_to t n), children_few t n)

-- the next row's children are counted
module _ (t : List ℤ) (row : ℕ) where
  pub times_more : {cs : List ℕ} → cs ≡ children_of (row_at t row) → tallied (times_to t row) cs ≡ times_to t (row + 1)
  times_more e =
      ap (tallied (times_to t row)) e
      ∙ sym (tallied_append (replicate 127 0) (children_to t row) (children_of (row_at t row)))
      ∙ ap (tallied (replicate 127 0)) (sym (children_more t row))
