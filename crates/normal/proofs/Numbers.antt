-- A word of the work area read as a number. Assumes nothing.
use Prim.Native.Nat.{ℕ}
use mathlib.Core.Path.{◌≡◌, sym, ap, subst, ◌∙◌}
use native.Mathlib.Omega.{arith}
use lib.Dec.{T}
use lib.IntN.{ℤ, pos, nat_abs}
use lib.Signed.{non_neg}
use mir.Syntax.{w32, w64}
use mir.Val.{Fits, to_z, of_z}
use mir.ValLaws.{to_z-of_z}
use Rattle.moves.specs.Moves.{IsWord}

module _ {x : ℤ} {n : ℕ} (e : x ≡ pos n) (h : IsWord n) where
  reads_back : to_z w32 (of_z w32 x) ≡ pos n
  reads_back = ap (λ (z : ℤ). to_z w32 (of_z w32 z)) e ∙ to_z-of_z w32 (pos n) (record { sfits = omega arith })

  pub as_number : nat_abs (to_z w32 (of_z w32 x)) ≡ n
  as_number = ap nat_abs reads_back

  pub number_fits : T (non_neg (to_z w32 (of_z w32 x))) × Fits w64 (nat_abs (to_z w32 (of_z w32 x)))
  number_fits = subst (λ (z : ℤ). T (non_neg z) × Fits w64 (nat_abs z)) (sym reads_back) (tt, record { fits = omega arith })
