-- What is found in what a run of numbers makes: the first of which a test holds. Assumes nothing.
use Prim.Native.Nat.{ℕ, zero, suc, ◌+◌, ◌≤◌, ◌<◌}
use native.Mathlib.Decide.{dec_le}
use native.Mathlib.Omega.{arith}
use mathlib.Core.Bool.{Bool, true, false}
use mathlib.Core.List.{map}
use mathlib.Core.Option.{Option, none, some}
use mathlib.Core.Path.{◌≡◌, refl, ap, ◌∙◌}
use Rattle.ground.specs.Lists.{from, find_if}
use Rattle.std.specs.Prelude.{if◌then◌else◌}

module _ {A : Type 0} (test : A → Bool) (f : ℕ → A) where
  -- of the n numbers from `start` on: the first one whose make passes; or none of them
  pub data First (start n : ℕ) (found : Option A) : Type 0 where
    there : (k : ℕ) → start ≤ k → k < start + n → test (f k) ≡ true → ((j : ℕ) → start ≤ j → j < k → test (f j) ≡ false) → found ≡ some (f k)
        → First start n found
    nowhere : ((j : ℕ) → start ≤ j → j < start + n → test (f j) ≡ false) → found ≡ none → First start n found

  pub find_first : (start n : ℕ) → First start n (find_if test (map f (from start n)))
  unfolding from find_if
  find_first start zero = nowhere (λ j a b. absurd (omega arith)) refl
  find_first start (suc n) = go (test (f start)) refl (find_first (suc start) n)
    where
      on : {b : Bool} (j : ℕ) → test (f start) ≡ b → start ≤ j → Dec (suc start ≤ j) → (suc start ≤ j → test (f j) ≡ b) → test (f j) ≡ b
      on j e a (yes l) later = later l
      on j e a (no l) later = let is : j ≡ start = omega arith in ap (λ (i : ℕ). test (f i)) is ∙ e

      go : (b : Bool) → test (f start) ≡ b → First (suc start) n (find_if test (map f (from (suc start) n)))
          → First start (suc n) (if b then some (f start) else find_if test (map f (from (suc start) n)))
      go true e later = there start (omega arith) (omega arith) e (λ j a b. absurd (omega arith)) refl
      go false e (there k a b h before is) =
          there k (omega arith) (omega arith) h (λ j c d. on j e c (dec_le (suc start) j) (λ l. before j l d)) is
      go false e (nowhere none_there is) = nowhere (λ j c d. on j e c (dec_le (suc start) j) (λ l. none_there j l (omega arith))) is
