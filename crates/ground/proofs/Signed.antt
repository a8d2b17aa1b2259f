-- Signed numbers in code. A local holds bits: what is read back of a number z is `to_z w (of_z w z)`, which is z where z fits the width.
-- Assumes nothing.
use Prim.Native.Nat.{ℕ, ◌<◌, ◌^◌}
use native.Mathlib.Omega.{arith}
use mathlib.Core.Bool.{true, false}
use mathlib.Core.Path.{◌≡◌, refl, sym, ap, ◌∙◌}
use lib.Dec.{eqb}
use lib.IntN.{ℤ, pos, negsuc}
use lib.Signed.{mag}
use mir.Syntax.{Width}
use mir.Val.{SFits, to_z, of_z, hbits}
use mir.ValLaws.{to_z-of_z, pow-bits}
use Rattle.ground.specs.Tests.{eq_z}
use Rattle.ground.proofs.Branches.{false_true}
use borrow.Author.Tests.{eqb-true, eq-eqb, ne_eqb}

module _ (w : Width) where
  -- a call's result, of which its range and its value are known
  pub read : {r z : ℤ} → mag r < 2 ^ hbits w → r ≡ z → to_z w (of_z w r) ≡ z
  read {r} h e = to_z-of_z w r (record { sfits = h }) ∙ e

  -- a number whose bits a match has told
  pub from_bits : {z : ℤ} {n : ℕ} → SFits w z → of_z w z ≡ n → z ≡ to_z w n
  from_bits {z} f e = sym (to_z-of_z w z f) ∙ ap (to_z w) e

-- ---- the test that two numbers are equal

pub eq_z_eq : (a b : ℤ) → eq_z a b ≡ true → a ≡ b
eq_z_eq (pos m) (pos n) h = ap pos (eqb-true m n h)
eq_z_eq (pos m) (negsuc n) h = false_true h
eq_z_eq (negsuc m) (pos n) h = false_true h
eq_z_eq (negsuc m) (negsuc n) h = ap negsuc (eqb-true m n h)

pub eq_z_ne : (a b : ℤ) → (a ≡ b → ⊥) → eq_z a b ≡ false
eq_z_ne (pos m) (pos n) h = ne_eqb m n (λ e. h (ap pos e))
eq_z_ne (pos m) (negsuc n) h = refl
eq_z_ne (negsuc m) (pos n) h = refl
eq_z_ne (negsuc m) (negsuc n) h = ne_eqb m n (λ e. h (ap negsuc e))

-- a number is 0 when its bits are
pub zero_read : (w : Width) {z : ℤ} → SFits w z → eqb (of_z w z) 0 ≡ eq_z z (pos 0)
zero_read w {z = pos n} f = refl
zero_read w {z = negsuc n} f = ne_eqb (of_z w (negsuc n)) 0 (λ e. omega (arith, pow-bits w, f.sfits))

-- a call's result was tested against 0
module _ (w : Width) {r z : ℤ} (ok : mag r < 2 ^ hbits w) (is : r ≡ z) where
  pub zero_yes : of_z w r ≡ 0 → eq_z z (pos 0) ≡ true
  zero_yes h = ap (λ (v : ℤ). eq_z v (pos 0)) (sym is) ∙ sym (zero_read w {z = r} (record { sfits = ok })) ∙ eq-eqb (of_z w r) 0 h

  pub zero_no : (of_z w r ≡ 0 → ⊥) → eq_z z (pos 0) ≡ false
  zero_no h = ap (λ (v : ℤ). eq_z v (pos 0)) (sym is) ∙ sym (zero_read w {z = r} (record { sfits = ok })) ∙ ne_eqb (of_z w r) 0 h

-- what holds of a number holds of what is read back of it
pub reread : (w : Width) {A : Type 0} (P : ℤ → A) {z : ℤ} {a : A} → SFits w z → P z ≡ a → P (to_z w (of_z w z)) ≡ a
reread w P {z} f h = ap P (to_z-of_z w z f) ∙ h
