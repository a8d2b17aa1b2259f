-- The order of whole numbers, as a test: it is transitive, adding more gives no less, and two orders that tell each other are one. Assumes nothing.
use Prim.Native.Nat.{ℕ, suc, ◌+◌, ◌-◌, ◌≤◌, ◌<◌}
use native.Mathlib.Omega.{arith}
use mathlib.Core.Bool.{Bool, true, false, cond}
use mathlib.Core.Path.{◌≡◌, refl}
use borrow.Author.Tests.{leb-true, le-leb, ltb-true, ltb-false}
use lib.Dec.{leb, ltb}
use lib.IntN.{ℤ, pos, negsuc, ◌+ℤ◌}
use lib.Signed.{le_z}
use Rattle.ground.proofs.Branches.{false_true, bool_both}

-- by two facts, one each way
pub leb_same : (a b c d : ℕ) → (a ≤ b → c ≤ d) → (c ≤ d → a ≤ b) → leb a b ≡ leb c d
leb_same a b c d f g = bool_both (leb a b) (leb c d) (λ h. le-leb c d (f (leb-true a b h))) (λ h. le-leb a b (g (leb-true c d h)))

pub le_z_refl : (a : ℤ) → le_z a a ≡ true
le_z_refl (pos a) = le-leb a a (omega arith)
le_z_refl (negsuc a) = le-leb a a (omega arith)

pub le_z_trans : (a b c : ℤ) → le_z a b ≡ true → le_z b c ≡ true → le_z a c ≡ true
le_z_trans (pos a) (pos b) (pos c) h k = le-leb a c (omega (arith, leb-true a b h, leb-true b c k))
le_z_trans (pos a) (pos b) (negsuc c) h k = k
le_z_trans (pos a) (negsuc b) c h k = false_true h
le_z_trans (negsuc a) (pos b) (pos c) h k = refl
le_z_trans (negsuc a) (pos b) (negsuc c) h k = false_true k
le_z_trans (negsuc a) (negsuc b) (pos c) h k = refl
le_z_trans (negsuc a) (negsuc b) (negsuc c) h k = le-leb c a (omega (arith, leb-true b a h, leb-true c b k))

pub le_z_add : (a : ℤ) (j k : ℕ) → j ≤ k → le_z (a +ℤ pos j) (a +ℤ pos k) ≡ true
le_z_add (pos m) j k h = le-leb (m + j) (m + k) (omega arith)
le_z_add (negsuc m) j k h = go (ltb j (suc m)) (ltb k (suc m)) (ltb-false j (suc m)) (ltb-true k (suc m))
  where
    go : (s t : Bool) → (s ≡ false → suc m ≤ j) → (t ≡ true → k < suc m)
        → le_z (cond s (negsuc (suc m - suc j)) (pos (j - suc m))) (cond t (negsuc (suc m - suc k)) (pos (k - suc m))) ≡ true
    go true true f g = le-leb (suc m - suc k) (suc m - suc j) (omega arith)
    go true false f g = refl
    go false true f g = absurd (omega (arith, f refl, g refl))
    go false false f g = le-leb (j - suc m) (k - suc m) (omega arith)
