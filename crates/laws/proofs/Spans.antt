-- How far from 0 a number is that lies in a span. Assumes nothing.
use Prim.Native.Nat.{ℕ, suc, ◌≤◌, ◌<◌}
use native.Mathlib.Omega.{arith}
use mathlib.Core.Bool.{true}
use mathlib.Core.Path.{◌≡◌}
use borrow.Author.Tests.{leb-true}
use lib.Dec.{leb}
use lib.IntN.{ℤ, pos, negsuc}
use lib.Signed.{mag}
use Rattle.ground.proofs.Branches.{false_true, and_left, and_right}
use Rattle.rules.specs.Ranges.{within}

-- a span from -(n + 1) to n
pub even_span : (n : ℕ) (v : ℤ) → within (record { lo = negsuc n; hi = pos n }) v ≡ true → mag v < suc n
even_span n (pos m) h = let l : m ≤ n = leb-true m n h in omega arith
even_span n (negsuc m) h = let l : m ≤ n = leb-true m n (and_left (leb m n) true h) in omega arith

-- a span from 1 to n
pub upper_span : (n : ℕ) (v : ℤ) → within (record { lo = pos 1; hi = pos n }) v ≡ true → mag v < suc n
upper_span n (pos m) h = let l : m ≤ n = leb-true m n (and_right (leb 1 m) (leb m n) h) in omega arith
upper_span n (negsuc m) h = false_true h
