-- The number of the primitive that a set has alone. Assumes nothing.
use Prim.Native.Nat.{ℕ, zero, suc, ◌/◌, ◌%◌, ◌^◌, ◌<◌}
use native.Mathlib.Nat.{pow-suc, mul-div_cancel, mul-mod_left}
use native.Mathlib.Omega.{arith}
use mathlib.Core.Path.{◌≡◌, refl, ap, ap₂, ◌∙◌}
use lib.Count.{under, count_trailing_zeros, trailing_le}
use Rattle.rows.proofs.puts.number.Goals as goal

trailing_one : (k i : ℕ) → i < k → count_trailing_zeros k (2 ^ i) ≡ i
unfolding count_trailing_zeros
trailing_one zero i l = absurd (omega arith)
trailing_one (suc k) zero l = refl
trailing_one (suc k) (suc i) l =
    let half : 2 ^ suc i / 2 ≡ 2 ^ i = ap (λ (n : ℕ). n / 2) (pow-suc 2 i) ∙ mul-div_cancel (2 ^ i) (omega arith) in
    let even : 2 ^ suc i % 2 ≡ 0 = ap (λ (n : ℕ). n % 2) (pow-suc 2 i) ∙ mul-mod_left (2 ^ i) 2 in
    ap₂ (λ (d n : ℕ). under d (count_trailing_zeros k n)) even half ∙ ap suc (trailing_one k i (omega arith))

pub overflow_cast-result : goal.overflow_cast-result
overflow_cast-result c = record { fits = omega (arith, trailing_le 64 c.args.bit) }

pub returns : goal.returns
returns c = λ i l e. ap (count_trailing_zeros 64) e ∙ trailing_one 64 i l
