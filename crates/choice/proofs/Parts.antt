-- What the parts of a plan tell of the whole: its k-th way. Assumes nothing.
use Prim.Native.Nat.{ℕ, zero, suc, ◌-◌, ◌*◌, ◌/◌, ◌%◌, ◌^◌, ◌≤◌, ◌<◌}
use native.Mathlib.Nat.{mod-lt, mul_comm, zero-mul, div-lt_iff_lt-mul}
use native.Mathlib.Omega.{arith}
use mathlib.Core.Bool.{true, false}
use mathlib.Core.Path.{◌≡◌, refl, sym, ap, subst, ◌∙◌}
use borrow.Author.Tests.{lt-ltb, le-ltb}
use lib.Dec.{ltb}
use Rattle.rules.specs.declared.Product.{Product}
use Rattle.rules.specs.Choices.{joined}
use Rattle.laws.specs.Plans.{Plan, with_it, without, either, both, count, kth}

module _ {p a b : Plan} (e : p ≡ either a b) {n : ℕ} (is : n ≡ count a) (k : ℕ) where
  in_left : k < n → ltb k (count a) ≡ true
  in_left l = lt-ltb k (count a) (subst (λ (m : ℕ). k < m) is l)

  in_right : n ≤ k → ltb k (count a) ≡ false
  in_right l = le-ltb k (count a) (subst (λ (m : ℕ). m ≤ k) is l)

  pub left_fits : k < n → k < count a
  left_fits l = subst (λ (m : ℕ). k < m) is l

  pub right_fits : k < count p → n ≤ k → k - n < count b
  unfolding count
  right_fits h l = omega (arith, ap count e)

  pub kth_left : k < n → kth a k ≡ kth p k
  unfolding kth
  kth_left l = rw (e, in_left l)

  pub kth_right : n ≤ k → kth b (k - n) ≡ kth p k
  unfolding kth
  kth_right l = rw (e, in_right l, is)

module _ {p a b : Plan} (e : p ≡ both a b) {n : ℕ} (is : n ≡ count a) (k : ℕ) where
  some_ways : k < count p → 0 < count a
  unfolding count
  some_ways h = go (count a) refl
    where
      go : (m : ℕ) → count a ≡ m → 0 < m
      go zero z = let none : count p ≡ 0 = ap count e ∙ ap (λ (x : ℕ). x * count b) z ∙ zero-mul (count b) in absurd (omega arith)
      go (suc m) z = omega arith

  pub left_ways : k < count p → 0 < n
  left_ways h = subst (λ (m : ℕ). 0 < m) (sym is) (some_ways h)

  pub low_fits : k < count p → k % n < count a
  low_fits h = subst (λ (m : ℕ). k % m < count a) (sym is) (mod-lt k (some_ways h))

  pub high_fits : k < count p → k / n < count b
  unfolding count
  high_fits h = subst (λ (m : ℕ). k / m < count b) (sym is) ((div-lt_iff_lt-mul (some_ways h)).1 (subst (λ (m : ℕ). k < m) (ap count e ∙ mul_comm (count a) (count b)) h))

  pub kth_both : {x y : Product} → x ≡ kth a (k % n) → y ≡ kth b (k / n) → joined x y ≡ kth p k
  unfolding kth
  kth_both g h = rw (e, g, h, is)

-- ---- a primitive's bit

module _ {p : Plan} {bit i : ℕ} (is : bit ≡ 2 ^ i) where
  pub kth_in : p ≡ with_it i → (k : ℕ) → record { plain = bit; cuts = 0 } ≡ kth p k
  unfolding kth
  kth_in e k = (λ j. record { plain = is j; cuts = 0 }) ∙ sym (ap (λ (q : Plan). kth q k) e)

  pub kth_out : p ≡ without i → (k : ℕ) → record { plain = 0; cuts = bit } ≡ kth p k
  unfolding kth
  kth_out e k = (λ j. record { plain = 0; cuts = is j }) ∙ sym (ap (λ (q : Plan). kth q k) e)
