-- Signed arithmetic in code, exact within bounds. `Num w n z most`: the bits n of width w read as z, and z is at most `most` from 0.
-- There is a law for each operation, so that a proof is the code's expression once more; where a bound is a numeral, the test that it fits
-- the width computes to `tt`. Assumes nothing.
use Prim.Native.Nat.{ℕ, zero, suc, ◌+◌, ◌-◌, ◌*◌, ◌^◌, ◌≤◌, ◌<◌}
use native.Mathlib.Nat.{le_refl, le_trans, le_of_eq, lt_of_le_of_lt, mul-le-mul_left, mul-le-mul_right}
use native.Mathlib.Omega.{arith}
use mathlib.Core.Bool.{Bool, true, false, cond}
use mathlib.Core.Path.{◌≡◌, refl, sym, subst}
use borrow.Author.Tests.{ltb-true}
use lib.Dec.{T, ltb, ltb→lt}
use lib.IntN.{ℤ, pos, negsuc, neg_ℤ, nat_abs, sub_ℕ, ◌+ℤ◌, ◌-ℤ◌, ◌*ℤ◌}
use lib.Signed.{mag, le_z, nat_abs-le}
use mir.Syntax.{Width, w32, w64}
use mir.Val.{SFits, to_z, of_z, hbits}
use mir.ValLaws.{to_z-of_z, to_z_pos}

-- ---- how far from 0

pub abs_neg : (z : ℤ) → nat_abs (neg_ℤ z) ≡ nat_abs z
abs_neg (pos zero) = refl
abs_neg (pos (suc n)) = refl
abs_neg (negsuc n) = refl

pub abs_mul : (a b : ℤ) → nat_abs (a *ℤ b) ≡ nat_abs a * nat_abs b
abs_mul (pos a) (pos b) = refl
abs_mul (pos a) (negsuc b) = abs_neg (pos (a * suc b))
abs_mul (negsuc a) (pos b) = abs_neg (pos (suc a * b))
abs_mul (negsuc a) (negsuc b) = refl

abs_sub : (a b : ℕ) → nat_abs (sub_ℕ a b) ≤ a + b
abs_sub a b = go (ltb a b) (ltb-true a b)
  where
    go : (t : Bool) → (t ≡ true → a < b) → nat_abs (cond t (negsuc (b - suc a)) (pos (a - b))) ≤ a + b
    go true h = omega (arith, h refl)
    go false h = omega arith

pub abs_add : (a b : ℤ) → nat_abs (a +ℤ b) ≤ nat_abs a + nat_abs b
abs_add (pos a) (pos b) = le_refl _
abs_add (pos a) (negsuc b) = abs_sub a (suc b)
abs_add (negsuc a) (pos b) = omega (arith, abs_sub b (suc a))
abs_add (negsuc a) (negsuc b) = omega arith

mag_abs : (z : ℤ) → mag z ≤ nat_abs z
mag_abs (pos n) = le_refl n
mag_abs (negsuc n) = omega arith

-- ---- a number

pub record Num (w : Width) (n : ℕ) (z : ℤ) (most : ℕ) : Type 0 where
  pub reads : to_z w n ≡ z
  pub bound : nat_abs z ≤ most

-- a bound fits a width
abbrev pub Fit : ℕ → Width → Type 0
Fit most w = T (ltb most (2 ^ hbits w))

bound_fits : {w : Width} {z : ℤ} {most : ℕ} → nat_abs z ≤ most → Fit most w → SFits w z
bound_fits {w} {z} {most} h t = record { sfits = lt_of_le_of_lt (mag_abs z) (lt_of_le_of_lt h (ltb→lt most (2 ^ hbits w) t)) }

-- a parameter or a field of which a bound is known
pub known : {w : Width} {z : ℤ} {most : ℕ} → SFits w z → mag z < most → Num w (of_z w z) z most
known {w} {z} f h = record { reads = to_z-of_z w z f; bound = nat_abs-le z h }

-- an unsigned number that was cast
pub unsigned : {w : Width} {n most : ℕ} → n ≤ most → Fit most w → Num w n (pos n) most
unsigned {w} {n} {most} h t = record { reads = to_z_pos w n (lt_of_le_of_lt h (ltb→lt most (2 ^ hbits w) t)); bound = h }

-- a number that was computed and written
made : {w : Width} {y z : ℤ} {most : ℕ} → y ≡ z → nat_abs z ≤ most → Fit most w → Num w (of_z w y) z most
made {w} {y} {z} e h t = record { reads = subst (λ (v : ℤ). to_z w (of_z w v) ≡ z) (sym e) (to_z-of_z w z (bound_fits h t)); bound = h }

module _ {v w : Width} {n : ℕ} {z : ℤ} {most : ℕ} (p : Num v n z most) (t : Fit most w) where
  pub cast_fits : SFits w (to_z v n)
  cast_fits = subst (SFits w) (sym p.reads) (bound_fits p.bound t)

  pub cast_num : Num w (of_z w (to_z v n)) z most
  cast_num = made p.reads p.bound t

-- a 32-bit number of which a bound is known, cast to 64 bits
module _ {z : ℤ} {most : ℕ} (f : SFits w32 z) (h : mag z < most) (t : Fit most w64) where
  pub widens : SFits w64 (to_z w32 (of_z w32 z))
  widens = cast_fits (known f h) t

  pub wide : Num w64 (of_z w64 (to_z w32 (of_z w32 z))) z most
  wide = cast_num (known f h) t

module _ {w : Width} {m n : ℕ} {a b : ℤ} {A B : ℕ} (p : Num w m a A) (q : Num w n b B) where
  mul_bound : nat_abs (a *ℤ b) ≤ A * B
  mul_bound = le_trans (le_of_eq (abs_mul a b)) (le_trans (mul-le-mul_left (nat_abs a) q.bound) (mul-le-mul_right B p.bound))

  add_bound : nat_abs (a +ℤ b) ≤ A + B
  add_bound = omega (arith, abs_add a b, p.bound, q.bound)

  sub_bound : nat_abs (a -ℤ b) ≤ A + B
  sub_bound = omega (arith, abs_add a (neg_ℤ b), abs_neg b, p.bound, q.bound)

  pub mul_fits : Fit (A * B) w → SFits w (to_z w m *ℤ to_z w n)
  mul_fits t = subst (SFits w) (λ i. sym p.reads i *ℤ sym q.reads i) (bound_fits mul_bound t)

  pub mul_num : Fit (A * B) w → Num w (of_z w (to_z w m *ℤ to_z w n)) (a *ℤ b) (A * B)
  mul_num t = made (λ i. p.reads i *ℤ q.reads i) mul_bound t

  pub add_fits : Fit (A + B) w → SFits w (to_z w m +ℤ to_z w n)
  add_fits t = subst (SFits w) (λ i. sym p.reads i +ℤ sym q.reads i) (bound_fits add_bound t)

  pub add_num : Fit (A + B) w → Num w (of_z w (to_z w m +ℤ to_z w n)) (a +ℤ b) (A + B)
  add_num t = made (λ i. p.reads i +ℤ q.reads i) add_bound t

  pub sub_fits : Fit (A + B) w → SFits w (to_z w m -ℤ to_z w n)
  sub_fits t = subst (SFits w) (λ i. sym p.reads i -ℤ sym q.reads i) (bound_fits sub_bound t)

  pub sub_num : Fit (A + B) w → Num w (of_z w (to_z w m -ℤ to_z w n)) (a -ℤ b) (A + B)
  sub_num t = made (λ i. p.reads i -ℤ q.reads i) sub_bound t

  -- a test of two of them is the test of their numbers
  pub le_num : le_z (to_z w m) (to_z w n) ≡ le_z a b
  le_num = λ i. le_z (p.reads i) (q.reads i)
