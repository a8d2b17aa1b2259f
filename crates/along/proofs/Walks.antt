-- Walking down a line by levels, over any test that goes by the set. Assumes nothing.
use Prim.Native.Nat.{ℕ, zero, suc, ◌+◌, ◌-◌, ◌≤◌, ◌<◌}
use native.Mathlib.Decide.{dec_le}
use native.Mathlib.Omega.{arith}
use mathlib.Core.Bool.{Bool, true, false, ◌||◌, or-true}
use mathlib.Core.Path.{◌≡◌, refl, sym, ap, ◌∙◌}
use borrow.Author.Tests.{lt-ltb, le-ltb}
use lib.Dec.{ltb}
use Rattle.ground.specs.Lists.{from, rest, any_of}
use Rattle.along.specs.Lines.{Highest}

-- ---- any place of a line

module _ (test : ℕ → Bool) where
  pub none_there : (start n : ℕ) → ((w : ℕ) → start ≤ w → w < start + n → test w ≡ false) → any_of test (from start n) ≡ false
  unfolding any_of from
  none_there start zero h = refl
  none_there start (suc n) h = rw (h start (omega arith) (omega arith)) (none_there (suc start) n (λ w a b. h w (omega arith) (omega arith)))

  pub one_there : (start n w : ℕ) → start ≤ w → w < start + n → test w ≡ true → any_of test (from start n) ≡ true
  unfolding any_of from
  one_there start zero w a b h = absurd (omega arith)
  one_there start (suc n) w a b h = go (dec_le (suc start) w) (one_there (suc start) n w)
    where
      go : Dec (suc start ≤ w) → (suc start ≤ w → w < suc start + n → test w ≡ true → any_of test (from (suc start) n) ≡ true) → (test start || any_of test (from (suc start) n)) ≡ true
      go (yes l) later = ap (λ (t : Bool). test start || t) (later l (omega arith) h) ∙ or-true (test start)
      go (no l) later = let e : w ≡ start = omega arith in ap (λ (t : Bool). t || any_of test (from (suc start) n)) (ap test (sym e) ∙ h)

  module _ {low to r : ℕ} (H : Highest test low to r) where
    -- some place is inside just if the walk stopped above the lowest
    pub highest_any : ltb low r ≡ any_of test (rest low to)
    highest_any = go (dec_le (suc low) r)
      where
        go : Dec (suc low ≤ r) → ltb low r ≡ any_of test (rest low to)
        go (yes l) = lt-ltb low r l ∙ sym (one_there low (to - low) (r - 1) (omega arith) (omega (arith, H.up)) (H.there l))
        go (no l) = le-ltb low r (omega arith) ∙ sym (none_there low (to - low) (λ w a b. H.above w (omega arith) (omega (arith, H.low, H.up))))

-- ---- one level down

-- so far no place from `left` on passes
pub record Walked (test : ℕ → Bool) (low to left : ℕ) : Type 0 where
  pub above_low : low ≤ left
  pub up : left ≤ to
  pub above : (w : ℕ) → left ≤ w → w < to → test w ≡ false

-- from a floor up to left - 1 the test says one thing, and it says no there
pub walk_on : {test : ℕ → Bool} {low to left floor : ℕ} → Walked test low to left → low < left → low ≤ floor → floor ≤ left - 1
    → ((w : ℕ) → floor ≤ w → w ≤ left - 1 → test w ≡ test (left - 1)) → test (left - 1) ≡ false → Walked test low to floor
walk_on {test} {low} {to} {left} {floor} W l a b same h = record {
  above_low = a;
  up = omega (arith, W.up);
  above = λ w c d. go w c d (dec_le left w);
}
  where
    go : (w : ℕ) → floor ≤ w → w < to → Dec (left ≤ w) → test w ≡ false
    go w c d (yes m) = W.above w m d
    go w c d (no m) = same w c (omega arith) ∙ h

-- a test that agrees at every place of the line
pub highest_as : {f g : ℕ → Bool} {low to r : ℕ} → ((v : ℕ) → low ≤ v → v < to → f v ≡ g v) → Highest g low to r → Highest f low to r
highest_as {r = r} e H = record {
  low = H.low;
  up = H.up;
  above = λ w a b. e w (omega (arith, H.low, a)) b ∙ H.above w a b;
  there = λ l. e (r - 1) (omega (arith, l)) (omega (arith, l, H.up)) ∙ H.there l;
}
