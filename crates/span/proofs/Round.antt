-- A drum's stretch of a column: its centre's place, as far each way as the greatest whole number within its inequality. Assumes nothing.
use Prim.Native.Nat.{ℕ, zero, suc, ◌<◌, ◌≤◌, ◌*◌, ◌+◌, ◌-◌}
use native.Mathlib.Decide.{dec_le}
use native.Mathlib.Nat.{le_trans, mul-le-mul, mul-le-mul_left, not-le_of_lt}
use native.Mathlib.Omega.{arith}
use mathlib.Core.Bool.{true, ◌&&◌}
use mathlib.Core.Path.{◌≡◌, sym, ap, ap₂, ◌∙◌}
use borrow.Author.Tests.{leb-true, le-leb}
use lib.Dec.{leb}
use lib.IntN.{ℤ, pos, negsuc, neg_ℤ, nat_abs, ◌+ℤ◌, ◌-ℤ◌, ◌*ℤ◌, +ℤ_comm}
use lib.Signed.{le_z}
use Rattle.ground.proofs.Branches.{false_true, and_left, and_right, bool_both}
use Rattle.ground.proofs.Differences.{pos_parts, sub_parts, same_parts, le_over, le_back}
use Rattle.ground.proofs.Order.{leb_same}
use Rattle.rules.specs.declared.Axis.TheVariants.{Frame}
use Rattle.rules.specs.Fields.{radii}
use Rattle.rules.specs.Inside.{square, in_ellipse}
use Rattle.rules.specs.ListWords.{raised}
use Rattle.rules.specs.Ranges.{within, columns}
use Rattle.laws.proofs.Ranges.{framed}
use Rattle.laws.proofs.InBox.{square_size}
use Rattle.span.specs.Along.{value, between, near, ellipse_left, Along, Root}
use Rattle.span.proofs.Order.{places_apart}

-- ---- near a place

near_centre : (v c m : ℕ) → leb (v - c + (c - v)) m ≡ between (near c m) v
near_centre v c m =
    bool_both (leb (v - c + (c - v)) m) (leb (c - m) v && leb v (c + m))
    (λ h. let l = leb-true (v - c + (c - v)) m h in ap₂ ◌&&◌ (le-leb (c - m) v (omega arith)) (le-leb v (c + m) (omega arith)))
    (λ h. le-leb (v - c + (c - v)) m
    (omega (arith, leb-true (c - m) v (and_left (leb (c - m) v) (leb v (c + m)) h), leb-true v (c + m) (and_right (leb (c - m) v) (leb v (c + m)) h))))

-- a number's square fits just if the number is at most the root
rooted : {r2 room m : ℕ} → Root r2 room m → (n : ℕ) → leb (r2 * (n * n)) room ≡ leb n m
rooted {r2} {room} {m} R n = leb_same (r2 * (n * n)) room n m to from
  where
    from : n ≤ m → r2 * (n * n) ≤ room
    from l = le_trans (mul-le-mul_left r2 (mul-le-mul l l)) R.fits

    to : r2 * (n * n) ≤ room → n ≤ m
    to h = by (dec_le n m)
      where
        by : Dec (n ≤ m) → n ≤ m
        by (yes l) = l
        by (no l) = let past : m + 1 ≤ n = omega arith in absurd (not-le_of_lt R.over (le_trans (mul-le-mul_left r2 (mul-le-mul past past)) h))

-- ---- an ellipse

radius_size : (r : ℤ) → within radii r ≡ true → (1 ≤ nat_abs r) × (nat_abs r ≤ 4096)
radius_size (pos n) h = (leb-true 1 n (and_left (leb 1 n) (leb n 4096) h), leb-true n 4096 (and_right (leb 1 n) (leb n 4096) h))
radius_size (negsuc n) h = false_true h

pub radius_most : (r : ℤ) → within radii r ≡ true → nat_abs r ≤ 4096
radius_most r h = (radius_size r h).1

-- a column in reach of an ellipse is no further from its centre than the radius
reach_size : (c r x : ℤ) → within radii r ≡ true → within (record { lo = c -ℤ r; hi = c +ℤ r }) x ≡ true → nat_abs (x -ℤ c) ≤ nat_abs r
reach_size c (negsuc r) x k h = false_true k
reach_size c (pos r) x k h =
    sized (x -ℤ c) r (sym (le_over c (neg_ℤ (pos r)) x) ∙ and_left (le_z (c -ℤ pos r) x) (le_z x (c +ℤ pos r)) h)
    (le_back x c (pos r) ∙ ap (le_z x) (+ℤ_comm (pos r) c) ∙ and_right (le_z (c -ℤ pos r) x) (le_z x (c +ℤ pos r)) h)
  where
    sized : (z : ℤ) (n : ℕ) → le_z (neg_ℤ (pos n)) z ≡ true → le_z z (pos n) ≡ true → nat_abs z ≤ n
    sized (pos m) n k l = leb-true m n l
    sized (negsuc m) zero k l = false_true k
    sized (negsuc m) (suc n) k l = omega (arith, leb-true m n k)

module _ (cx cy rx ry x : ℤ) (kx : within radii rx ≡ true) (reach : within (record { lo = cx -ℤ rx; hi = cx +ℤ rx }) x ≡ true) where
  abbrev left : ℤ
  left = ellipse_left cx rx ry x

  abbrev r2 : ℕ
  r2 = nat_abs rx * nat_abs rx

  abbrev whole : ℕ
  whole = r2 * (nat_abs ry * nat_abs ry)

  abbrev part : ℕ
  part = nat_abs ry * nat_abs ry * (nat_abs (x -ℤ cx) * nat_abs (x -ℤ cx))

  left_is : left ≡ pos (whole - part)
  left_is =
      let l = reach_size cx rx x kx reach in
      let most : part ≤ nat_abs ry * nat_abs ry * r2 = mul-le-mul_left (nat_abs ry * nat_abs ry) (mul-le-mul l l) in
      ap₂ ◌-ℤ◌ (ap₂ ◌*ℤ◌ (square_size rx) (square_size ry)) (ap₂ ◌*ℤ◌ (square_size ry) (square_size (x -ℤ cx)))
      ∙ same_parts (sub_parts (pos_parts whole) (pos_parts part)) (pos_parts (whole - part)) (omega (arith, most))

  -- what the root asks for
  pub root_fits : nat_abs left < r2 * ((nat_abs ry + 1) * (nat_abs ry + 1))
  root_fits =
      let l = (radius_size rx kx).0 in
      let least : 1 * 1 ≤ r2 = mul-le-mul l l in
      omega (arith, ap nat_abs left_is, least)

  pub ellipse_near : within columns cy ≡ true → {m : ℕ} → Root r2 (nat_abs left) m → Along (λ v. in_ellipse cx cy rx ry x (value v)) (near (raised Frame cy) m)
  ellipse_near h {m} R = record {
    each = λ v l. by_code v ∙ rooted R (nat_abs (value v -ℤ cy)) ∙ ap (λ (n : ℕ). leb n m) (places_apart v cy (framed cy h)) ∙ near_centre v (raised Frame cy) m;
  }
    where
      by_code : (v : ℕ) → in_ellipse cx cy rx ry x (value v) ≡ leb (r2 * (nat_abs (value v -ℤ cy) * nat_abs (value v -ℤ cy))) (nat_abs left)
      by_code v =
          le_over (square ry *ℤ square (x -ℤ cx)) (square rx *ℤ square (value v -ℤ cy)) (square rx *ℤ square ry)
          ∙ ap₂ le_z (ap₂ ◌*ℤ◌ (square_size rx) (square_size (value v -ℤ cy))) (left_is ∙ ap pos (sym (ap nat_abs left_is)))
