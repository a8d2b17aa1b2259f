-- Bounds of an axis as a header has them: raising one and lowering it gives it back, keeps the order and stays within the greatest word. Assumes nothing.
use Prim.Native.Nat.{ℕ, suc, ◌-◌, ◌≤◌}
use native.Mathlib.Omega.{arith}
use mathlib.Core.Bool.{true, ◌&&◌}
use mathlib.Core.Path.{◌≡◌, refl, sym, ap, ap₂, ◌∙◌}
use borrow.Author.Tests.{leb-true, le-ltb}
use lib.Dec.{leb, lit≤}
use lib.IntN.{ℤ, pos, negsuc, ◌+ℤ◌, ◌-ℤ◌, +ℤ_idr, +ℤ_comm, +ℤ-neg_ℤ_cancel}
use lib.Signed.{le_z}
use Rattle.ground.proofs.Branches.{false_true, and_left, and_right}
use Rattle.ground.proofs.Order.{le_z_trans, le_z_add}
use Rattle.rules.specs.declared.Axis.{Axis}
use Rattle.rules.specs.declared.Axis.TheVariants.{Column, Code, Frame}
use Rattle.rules.specs.ListWords.{offset, most_word, raised, lowered, bounds_word}
use Rattle.rules.specs.Ranges.{within, greatest, range}

-- values, and what a header adds to them, are well within 32 bits
pub greatest_small : (axis : Axis) → greatest axis ≤ 536870911
greatest_small Column = lit≤ tt
greatest_small Code = lit≤ tt
greatest_small Frame = lit≤ tt

-- the bounds of an axis stand in the header
pub bounds_early : (axis : Axis) → bounds_word axis ≤ 5
bounds_early Column = lit≤ tt
bounds_early Code = lit≤ tt
bounds_early Frame = lit≤ tt

module _ (axis : Axis) where
  raised_below : (m : ℕ) → m ≤ greatest axis → negsuc m +ℤ pos (offset axis) ≡ pos (offset axis - suc m)
  raised_below m l = rw (le-ltb (offset axis) (suc m) (omega arith)) refl

  below_in : (m : ℕ) → within (range axis) (negsuc m) ≡ true → m ≤ greatest axis
  below_in m h = leb-true m (greatest axis) (and_left (leb m (greatest axis)) true h)

  pub raised_adds : (v : ℤ) → within (range axis) v ≡ true → pos (raised axis v) ≡ v +ℤ pos (offset axis)
  raised_adds (pos m) h = refl
  raised_adds (negsuc m) h = rw (raised_below m (below_in m h)) refl

  pub raised_back : (v : ℤ) → within (range axis) v ≡ true → lowered axis (raised axis v) ≡ v
  raised_back v h = ap (λ (x : ℤ). x -ℤ pos (offset axis)) (raised_adds v h) ∙ +ℤ-neg_ℤ_cancel v (pos (offset axis))

  pub raised_rises : (a b : ℤ) → within (range axis) a ≡ true → within (range axis) b ≡ true → le_z a b ≡ true → raised axis a ≤ raised axis b
  raised_rises (pos m) (pos n) ha hb h = let l = leb-true m n h in omega arith
  raised_rises (pos m) (negsuc n) ha hb h = false_true h
  raised_rises (negsuc m) (pos n) ha hb h = rw (raised_below m (below_in m ha)) (omega arith)
  raised_rises (negsuc m) (negsuc n) ha hb h =
      let l = leb-true n m h in rw (raised_below m (below_in m ha), raised_below n (below_in n hb)) (omega arith)

  pub raised_most : (v : ℤ) → within (range axis) v ≡ true → raised axis v ≤ most_word axis
  raised_most (pos m) h = let l = leb-true m (greatest axis) h in omega arith
  raised_most (negsuc m) h = rw (raised_below m (below_in m h)) (omega arith)

  -- a word, lowered, counts up from the least value
  from_least : (w : ℕ) → lowered axis w ≡ negsuc (greatest axis) +ℤ pos w
  from_least w = +ℤ_comm (pos w) (negsuc (greatest axis))

  pub lowered_rises : (lo hi : ℕ) → lo ≤ hi → le_z (lowered axis lo) (lowered axis hi) ≡ true
  lowered_rises lo hi l = ap₂ le_z (from_least lo) (from_least hi) ∙ le_z_add (range axis).lo lo hi l

  -- so what lies between two lowered words is in range
  pub lowered_in : (lo hi : ℕ) → hi ≤ most_word axis → (v : ℤ) → within (record { lo = lowered axis lo; hi = lowered axis hi }) v ≡ true
      → within (range axis) v ≡ true
  lowered_in lo hi l v h =
      let low = lowered axis lo in
      let high = lowered axis hi in
      let least : le_z (range axis).lo low ≡ true = ap₂ le_z (sym (+ℤ_idr (range axis).lo)) (from_least lo) ∙ le_z_add (range axis).lo 0 lo (omega arith) in
      let most : le_z high (range axis).hi ≡ true = top hi l in
      ap₂ ◌&&◌ (le_z_trans (range axis).lo low v least (and_left (le_z low v) (le_z v high) h))
      (le_z_trans v high (range axis).hi (and_right (le_z low v) (le_z v high) h) most)
    where
      greatest_is : negsuc (greatest axis) +ℤ pos (most_word axis) ≡ pos (greatest axis)
      greatest_is = rw (le-ltb (most_word axis) (suc (greatest axis)) (omega arith)) (ap pos (omega arith))

      top : (w : ℕ) → w ≤ most_word axis → le_z (lowered axis w) (range axis).hi ≡ true
      top w k = ap₂ le_z (from_least w) (sym greatest_is) ∙ le_z_add (range axis).lo w (most_word axis) k
