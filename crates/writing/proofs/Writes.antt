-- A text that grows by one piece at a time. Assumes nothing.
use Prim.Native.Nat.{ℕ, zero, suc, ◌+◌, ◌-◌, ◌≤◌, ◌<◌}
use native.Mathlib.Nat.{add-zero}
use native.Mathlib.Omega.{arith}
use mathlib.Core.List.{List, ◌++◌}
use mathlib.Core.Path.{◌≡◌, ap, ◌∙◌}
use lib.ListN.{length, length-append}
use Rattle.number.specs.Writing.{Put}
use Rattle.number.proofs.Writing.{put_join, put_same}

module _ (text piece : ℕ → List ℕ) (grows : (k : ℕ) → text (k + 1) ≡ text k ++ piece k) where
  pub longer : (k : ℕ) → length (text (k + 1)) ≡ length (text k) + length (piece k)
  longer k = ap length (grows k) ∙ length-append (text k) (piece k)

  never_shorter : (k more : ℕ) → length (text k) ≤ length (text (k + more))
  never_shorter k zero = omega (arith, ap (λ (i : ℕ). length (text i)) (add-zero k))
  never_shorter k (suc more) =
      let on : k + more + 1 ≡ k + suc more = omega arith in
      omega (arith, never_shorter k more, longer (k + more), ap (λ (i : ℕ). length (text i)) on)

  -- the next piece is part of every longer text
  pub piece_fits : (k n : ℕ) → k < n → length (text k) + length (piece k) ≤ length (text n)
  piece_fits k n l =
      let on : k + 1 + (n - (k + 1)) ≡ n = omega arith in
      omega (arith, longer k, never_shorter (k + 1) (n - (k + 1)), ap (λ (i : ℕ). length (text i)) on)

  pub put_next : {before after last : List ℕ} {at next end : ℕ} (k : ℕ) → Put before at (text k) after next → Put after next (piece k) last end
      → Put before at (text (k + 1)) last end
  put_next k p q = put_same (grows k) (put_join p q)
