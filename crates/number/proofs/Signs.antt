-- The sign of a 32-bit number: its negative in 64 bits, and its text with and without a minus. Assumes nothing.
use Prim.Native.Nat.{ℕ, suc, ◌+◌, ◌<◌}
use native.Mathlib.Nat.{le_refl}
use native.Mathlib.Omega.{arith}
use mathlib.Core.Bool.{Bool, true, false}
use mathlib.Core.List.{List, ◌∷◌}
use mathlib.Core.Path.{◌≡◌, refl, sym, ap, ◌∙◌}
use borrow.Author.Tests.{ltb-true}
use lib.Dec.{T}
use lib.IntN.{ℤ, pos, negsuc, neg_ℤ, nat_abs, ◌-ℤ◌, +ℤ_idl}
use lib.ListN.{length}
use lib.Signed.{mag, lt_z, non_neg}
use mir.Syntax.{w32, w64}
use mir.Val.{SFits, to_z, of_z}
use mir.ValLaws.{to_z-of_z}
use Rattle.std.specs.Int.{from_bool}
use Rattle.ground.proofs.Branches.{false_true}
use Rattle.ground.proofs.Num.{Num, Fit, unsigned, sub_fits, sub_num}
use Rattle.rules.specs.Text.{minus, number_text}
use Rattle.rules.specs.Listing.{word_text}
use Rattle.number.proofs.Digits.{long_decimal}

-- the negative of a number, as code has it: 0 less the number
module _ {n : ℕ} {z : ℤ} {most : ℕ} (p : Num w64 n z most) (t : Fit (0 + most) w64) where
  nought : Num w64 0 (pos 0) 0
  nought = unsigned (le_refl 0) tt

  pub negative_fits : SFits w64 (pos 0 -ℤ to_z w64 n)
  negative_fits = sub_fits nought p t

  pub negative_reads : to_z w64 (of_z w64 (pos 0 -ℤ to_z w64 n)) ≡ neg_ℤ z
  negative_reads = (sub_num nought p t).reads ∙ +ℤ_idl (neg_ℤ z)

not_below : (n : ℕ) → lt_z (pos n) (pos 0) ≡ true → ⊥
not_below n h = omega (arith, ltb-true n 0 h)

-- a number of a known sign
pub negated : (z : ℤ) → lt_z z (pos 0) ≡ true → T (non_neg (neg_ℤ z))
negated (pos n) h = absurd (not_below n h)
negated (negsuc n) h = tt

pub not_negative : (z : ℤ) → lt_z z (pos 0) ≡ false → T (non_neg z)
not_negative (pos n) h = tt
not_negative (negsuc n) h = false_true (sym h)

below_text : (z : ℤ) → mag z < 2147483648 → lt_z z (pos 0) ≡ true → number_text z ≡ minus ∷ word_text (nat_abs z)
below_text (pos k) l h = absurd (not_below k h)
below_text (negsuc k) l h = ap (λ (ds : List ℕ). minus ∷ ds) (sym (long_decimal (suc k) (omega arith)))

above_text : (z : ℤ) → mag z < 2147483648 → lt_z z (pos 0) ≡ false → number_text z ≡ word_text (nat_abs z)
above_text (pos k) l h = sym (long_decimal k (omega arith))
above_text (negsuc k) l h = false_true (sym h)

-- the text of a number whose sign was tested and whose magnitude n was found
module _ (z : ℤ) (f : SFits w32 z) {n : ℕ} (m : n ≡ nat_abs (to_z w32 (of_z w32 z))) where
  lent : to_z w32 (of_z w32 z) ≡ z
  lent = to_z-of_z w32 z f

  pub with_minus : lt_z (to_z w32 (of_z w32 z)) (pos 0) ≡ true → number_text z ≡ minus ∷ word_text n
  with_minus h = below_text z f.sfits (rw lent at h) ∙ ap (λ (k : ℕ). minus ∷ word_text k) (sym (m ∙ ap nat_abs lent))

  pub without_minus : lt_z (to_z w32 (of_z w32 z)) (pos 0) ≡ false → number_text z ≡ word_text n
  without_minus h = above_text z f.sfits (rw lent at h) ∙ ap word_text (sym (m ∙ ap nat_abs lent))

  -- a minus is one byte more
  pub signed_size : length (word_text n) + from_bool (lt_z (to_z w32 (of_z w32 z)) (pos 0)) ≡ length (number_text z)
  signed_size = go (lt_z (to_z w32 (of_z w32 z)) (pos 0)) with_minus without_minus
    where
      go : (b : Bool) → (b ≡ true → number_text z ≡ minus ∷ word_text n) → (b ≡ false → number_text z ≡ word_text n)
          → length (word_text n) + from_bool b ≡ length (number_text z)
      go true below above = omega (arith, ap length (below refl))
      go false below above = omega (arith, ap length (above refl))
