-- What a test keeps of a list, and where it finds an element; of numbers in a row, the places of those it keeps. Assumes nothing.
use Prim.Native.Nat.{ℕ, zero, suc, ◌+◌, ◌≤◌, ◌<◌}
use native.Mathlib.Decide.{dec_le}
use native.Mathlib.Nat.{le_of_suc-le-suc, not-suc-le-zero}
use native.Mathlib.Omega.{arith}
use mathlib.Core.Bool.{Bool, true, false, ◌&&◌, ◌||◌, or-true}
use mathlib.Core.List.{List, [], ◌∷◌, ◌++◌, map}
use mathlib.Core.Option.{some}
use mathlib.Core.Path.{◌≡◌, refl, sym, ap, ◌∙◌}
use lib.ListN.{length, get_or}
use Rattle.std.specs.Prelude.{if◌then◌else◌}
use Rattle.ground.specs.Lists.{All, from, any_of, keep_if, count_if, find_if}
use Rattle.ground.proofs.Branches.{false_true}

module _ {A : Type 0} (test : A → Bool) where
  pub kept_append : (xs ys : List A) → keep_if test (xs ++ ys) ≡ keep_if test xs ++ keep_if test ys
  unfolding keep_if
  kept_append [] ys = refl
  kept_append (x ∷ xs) ys = go (test x) (kept_append xs ys)
    where
      go : (b : Bool) → keep_if test (xs ++ ys) ≡ keep_if test xs ++ keep_if test ys
          → (if b then x ∷ keep_if test (xs ++ ys) else keep_if test (xs ++ ys)) ≡ (if b then x ∷ keep_if test xs else keep_if test xs) ++ keep_if test ys
      go true e = ap {B = List A} (λ l. x ∷ l) e
      go false e = e

  pub kept_length : (xs : List A) → length (keep_if test xs) ≤ length xs
  unfolding keep_if
  kept_length [] = omega arith
  kept_length (x ∷ xs) = go (test x) (kept_length xs)
    where
      go : (b : Bool) → length (keep_if test xs) ≤ length xs → length (if b then x ∷ keep_if test xs else keep_if test xs) ≤ suc (length xs)
      go true h = omega arith
      go false h = omega arith

  -- a test that some element passes, by the element's place
  pub any_found : (d : A) (xs : List A) → any_of test xs ≡ true → (i : ℕ) × (i < length xs) × (test (get_or xs i d) ≡ true)
  unfolding any_of
  any_found d [] h = false_true h
  any_found d (x ∷ xs) h = go (test x) refl h (any_found d xs)
    where
      go : (b : Bool) → test x ≡ b → (b || any_of test xs) ≡ true → (any_of test xs ≡ true → (i : ℕ) × (i < length xs) × (test (get_or xs i d) ≡ true))
          → (i : ℕ) × (i < suc (length xs)) × (test (get_or (x ∷ xs) i d) ≡ true)
      go true e h f = (0, omega arith, e)
      go false e h f = let s = f h in let l : s.0 < length xs = s.1 in (suc s.0, omega arith, s.2)

  pub found_any : (d : A) (xs : List A) (i : ℕ) → i < length xs → test (get_or xs i d) ≡ true → any_of test xs ≡ true
  unfolding any_of
  found_any d [] i l h = absurd (not-suc-le-zero l)
  found_any d (x ∷ xs) zero l h = ap (λ (b : Bool). b || any_of test xs) h
  found_any d (x ∷ xs) (suc i) l h = ap (λ (b : Bool). test x || b) (found_any d xs i (le_of_suc-le-suc l) h) ∙ or-true (test x)

-- a test of what is made of the elements that another test keeps
pub any_made : {A B : Type 0} (test : B → Bool) (f : A → B) (keep : A → Bool) (xs : List A)
    → any_of test (map f (keep_if keep xs)) ≡ any_of (λ x. keep x && test (f x)) xs
unfolding any_of keep_if
any_made test f keep [] = refl
any_made test f keep (x ∷ xs) = go (keep x) (any_made test f keep xs)
  where
    go : (b : Bool) → any_of test (map f (keep_if keep xs)) ≡ any_of (λ x. keep x && test (f x)) xs
        → any_of test (map f (if b then x ∷ keep_if keep xs else keep_if keep xs)) ≡ ((b && test (f x)) || any_of (λ x. keep x && test (f x)) xs)
    go true e = ap (λ (b : Bool). test (f x) || b) e
    go false e = e

-- ---- the numbers that a test keeps: they rise, they pass it, and none that passes is missing

module _ (test : ℕ → Bool) where
  abbrev pub kept_at : ℕ → ℕ → ℕ → ℕ
  kept_at start n j = get_or (keep_if test (from start n)) j 0

  pub kept_passes : (start n j : ℕ) → j < length (keep_if test (from start n))
      → (start ≤ kept_at start n j) × (kept_at start n j < start + n) × (test (kept_at start n j) ≡ true)
  unfolding keep_if from
  kept_passes start zero j l = absurd (not-suc-le-zero l)
  kept_passes start (suc n) j l = go (test start) refl j l (kept_passes (suc start) n)
    where
      more : List ℕ
      more = keep_if test (from (suc start) n)

      go : (b : Bool) → test start ≡ b → (j : ℕ) → j < length (if b then start ∷ more else more)
          → ((j : ℕ) → j < length more → (suc start ≤ get_or more j 0) × (get_or more j 0 < suc start + n) × (test (get_or more j 0) ≡ true))
          → (start ≤ get_or (if b then start ∷ more else more) j 0) × (get_or (if b then start ∷ more else more) j 0 < start + suc n)
          × (test (get_or (if b then start ∷ more else more) j 0) ≡ true)
      go true e zero l f = (omega arith, omega arith, e)
      go true e (suc j) l f = let s = f j (le_of_suc-le-suc l) in (omega (arith, s.0), omega (arith, s.1), s.2)
      go false e j l f = let s = f j l in (omega (arith, s.0), omega (arith, s.1), s.2)

  pub kept_rising : (start n i j : ℕ) → i < j → j < length (keep_if test (from start n)) → kept_at start n i < kept_at start n j
  unfolding keep_if from
  kept_rising start zero i j h l = absurd (not-suc-le-zero l)
  kept_rising start (suc n) i j h l = go (test start) i j h l (kept_rising (suc start) n)
    where
      more : List ℕ
      more = keep_if test (from (suc start) n)

      go : (b : Bool) (i j : ℕ) → i < j → j < length (if b then start ∷ more else more)
          → ((i j : ℕ) → i < j → j < length more → get_or more i 0 < get_or more j 0)
          → get_or (if b then start ∷ more else more) i 0 < get_or (if b then start ∷ more else more) j 0
      go true i zero h l f = absurd (not-suc-le-zero h)
      go true zero (suc j) h l f = omega (arith, (kept_passes (suc start) n j (le_of_suc-le-suc l)).0)
      go true (suc i) (suc j) h l f = f i j (le_of_suc-le-suc h) (le_of_suc-le-suc l)
      go false i j h l f = f i j h l

  pub passes_kept : (start n i : ℕ) → start ≤ i → i < start + n → test i ≡ true
      → (j : ℕ) × (j < length (keep_if test (from start n))) × (kept_at start n j ≡ i)
  unfolding keep_if from
  passes_kept start zero i a b h = absurd (omega arith)
  passes_kept start (suc n) i a b h = go (test start) refl (dec_le (suc start) i) (passes_kept (suc start) n i)
    where
      more : List ℕ
      more = keep_if test (from (suc start) n)

      go : (b : Bool) → test start ≡ b → Dec (suc start ≤ i)
          → (suc start ≤ i → i < suc start + n → test i ≡ true → (j : ℕ) × (j < length more) × (get_or more j 0 ≡ i))
          → (j : ℕ) × (j < length (if b then start ∷ more else more)) × (get_or (if b then start ∷ more else more) j 0 ≡ i)
      go true e (yes m) f = let s = f m (omega arith) h in let l : s.0 < length more = s.1 in (suc s.0, omega arith, s.2)
      go true e (no m) f = (0, omega arith, omega arith)
      go false e (yes m) f = f m (omega arith) h
      go false e (no m) f = let same_place : start ≡ i = omega arith in false_true (sym e ∙ ap test same_place ∙ h)

-- tests that agree on each element find the same one, and count as many
module _ {A : Type 0} (p q : A → Bool) where
  pub find_same : (xs : List A) → All (λ x. p x ≡ q x) xs → find_if p xs ≡ find_if q xs
  unfolding find_if
  find_same [] h = refl
  find_same (x ∷ xs) h = λ i. if h.0 i then some x else find_same xs h.1 i

  pub count_same : (xs : List A) → All (λ x. p x ≡ q x) xs → count_if p xs ≡ count_if q xs
  unfolding count_if
  count_same [] h = refl
  count_same (x ∷ xs) h = λ i. if h.0 i then suc (count_same xs h.1 i) else count_same xs h.1 i
