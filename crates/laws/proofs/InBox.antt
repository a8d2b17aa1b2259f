-- A primitive holds no point out of its box. Assumes nothing.
use Prim.Native.Nat.{ℕ, suc, ◌+◌, ◌-◌, ◌*◌, ◌≤◌, ◌<◌}
use native.Mathlib.Decide.{dec_le}
use native.Mathlib.Nat.{mul_comm, mul-pos, mul-le-mul_left, mul-lt-mul_of_pos_right, le_of_mul-le-mul_right}
use native.Mathlib.Omega.{arith}
use mathlib.Core.Bool.{true, ◌&&◌}
use mathlib.Core.Path.{◌≡◌, refl, sym, ap, ap₂, subst, ◌∙◌}
use borrow.Author.Tests.{leb-true, le-ltb}
use lib.IntN.{ℤ, pos, negsuc, nat_abs, ◌+ℤ◌, ◌-ℤ◌, ◌*ℤ◌, +ℤ_assoc, +ℤ_comm, +ℤ_idr, -ℤ-+ℤ_cancel}
use lib.Signed.{le_z}
use Rattle.ground.proofs.Branches.{false_true, and_left, and_right}
use Rattle.ground.proofs.Order.{le_z_add}
use Rattle.rules.specs.declared.Point.{Point}
use Rattle.rules.specs.declared.DrumShape.{DrumShape}
use Rattle.rules.specs.declared.TriangleShape.{TriangleShape}
use Rattle.rules.specs.declared.Primitive.{Primitive}
use Rattle.rules.specs.declared.Primitive.TheVariants as primitive
use Rattle.rules.specs.Ranges.{within}
use Rattle.rules.specs.Boxes.{holds}
use Rattle.rules.specs.Fields.{radii, drum_right, triangle_right}
use Rattle.rules.specs.Inside.{bounds, half_space, square, in_ellipse, inside_solid}
use Rattle.rules.specs.Products.{box_of}
use Rattle.laws.specs.Sound.{solid_right}
use Rattle.laws.proofs.Ranges.{rx_in, ry_in}
use Rattle.laws.proofs.Triangles.{columns_around, codes_around}

pub square_size : (v : ℤ) → square v ≡ pos (nat_abs v * nat_abs v)
square_size (pos n) = refl
square_size (negsuc n) = refl

root_le : (u a : ℕ) → u * u ≤ a * a → u ≤ a
root_le u a h = go (dec_le u a)
  where
    go : Dec (u ≤ a) → u ≤ a
    go (yes l) = l
    go (no l) =
        let low : a * a ≤ a * u = mul-le-mul_left {m = a} {n = u} a (omega arith) in
        let high : a * u < u * u = mul-lt-mul_of_pos_right {m = a} {n = u} {k = u} (omega arith) (omega arith) in
        absurd (omega arith)

scaled_le : (a b u : ℕ) → 0 < b → b * b * (u * u) ≤ a * a * (b * b) → u ≤ a
scaled_le a b u l h =
    root_le u a (le_of_mul-le-mul_right {m = u * u} {n = a * a} {k = b * b} (subst (λ (n : ℕ). n ≤ a * a * (b * b)) (mul_comm (b * b) (u * u)) h) (mul-pos l l))

-- a point of an ellipse is no further from the centre, on each axis, than the radius there
module _ (cx cy x y : ℤ) (a b : ℕ) (h : in_ellipse cx cy (pos a) (pos b) x y ≡ true) where
  abbrev across : ℕ
  across = nat_abs (x -ℤ cx)

  abbrev along : ℕ
  along = nat_abs (y -ℤ cy)

  sum_le : b * b * (across * across) + a * a * (along * along) ≤ a * a * (b * b)
  sum_le = leb-true (b * b * (across * across) + a * a * (along * along)) (a * a * (b * b))
      (sym (ap₂ (λ (s t : ℤ). le_z (pos (b * b) *ℤ s +ℤ pos (a * a) *ℤ t) (pos (a * a * (b * b)))) (square_size (x -ℤ cx)) (square_size (y -ℤ cy))) ∙ h)

  across_le : 0 < b → across ≤ a
  across_le l = scaled_le a b across l (omega (arith, sum_le))

  along_le : 0 < a → along ≤ b
  along_le l = scaled_le b a along l (omega (arith, sum_le, mul_comm (b * b) (a * a)))

-- what is no further from c than r is from c - r to c + r
module _ (c v : ℤ) (r : ℕ) (near : nat_abs (v -ℤ c) ≤ r) where
  from_low : (e : ℤ) → nat_abs e ≤ r → (k : ℕ) × (k ≤ r + r) × (pos r +ℤ e ≡ pos k)
  from_low (pos n) l = (r + n, omega arith, refl)
  from_low (negsuc n) l = (r - suc n, omega arith, rw (le-ltb r (suc n) l))

  in_reach : within (record { lo = c -ℤ pos r; hi = c +ℤ pos r }) v ≡ true
  in_reach =
      let low = c -ℤ pos r in
      let (k, l, e) = from_low (v -ℤ c) near in
      let centre : low +ℤ pos r ≡ c = -ℤ-+ℤ_cancel c (pos r) in
      let there : low +ℤ pos k ≡ v =
      ap (λ (d : ℤ). low +ℤ d) (sym e) ∙ sym (+ℤ_assoc low (pos r) (v -ℤ c)) ∙ ap (λ (d : ℤ). d +ℤ (v -ℤ c)) centre
      ∙ +ℤ_comm c (v -ℤ c) ∙ -ℤ-+ℤ_cancel v c in
      let high : low +ℤ pos (r + r) ≡ c +ℤ pos r = sym (+ℤ_assoc low (pos r) (pos r)) ∙ ap (λ (d : ℤ). d +ℤ pos r) centre in
      ap₂ ◌&&◌ (sym (ap₂ le_z (+ℤ_idr low) there) ∙ le_z_add low 0 k (omega arith)) (sym (ap₂ le_z there high) ∙ le_z_add low k (r + r) l)

ellipse_box : (cx cy rx ry x y : ℤ) → within radii rx ≡ true → within radii ry ≡ true → in_ellipse cx cy rx ry x y ≡ true
    → (within (record { lo = cx -ℤ rx; hi = cx +ℤ rx }) x ≡ true) × (within (record { lo = cy -ℤ ry; hi = cy +ℤ ry }) y ≡ true)
ellipse_box cx cy (negsuc a) ry x y k l h = false_true k
ellipse_box cx cy (pos a) (negsuc b) x y k l h = false_true l
ellipse_box cx cy (pos a) (pos b) x y k l h =
    (in_reach cx x a (across_le cx cy x y a b h (positive b l)), in_reach cy y b (along_le cx cy x y a b h (positive a k)))
  where
    positive : (n : ℕ) → within radii (pos n) ≡ true → 0 < n
    positive n e = leb-true 1 n (and_left (le_z (pos 1) (pos n)) (le_z (pos n) (pos 4096)) e)

drum_box : (d : DrumShape) (p : Point) → drum_right d ≡ true → inside_solid (primitive.Drum d) p ≡ true → holds (box_of (primitive.Drum d)) p ≡ true
drum_box d p right h =
    let frame = within (record { lo = d.zlo; hi = d.zhi }) p.z in
    let ellipse = in_ellipse d.cx d.cy d.rx d.ry p.x p.y in
    let (x-holds, y-holds) =
    ellipse_box d.cx d.cy d.rx d.ry p.x p.y (rx_in d right) (ry_in d right) (and_right frame ellipse h) in
    ap₂ ◌&&◌ x-holds (ap₂ ◌&&◌ y-holds (and_left frame ellipse h))

triangle_box : (t : TriangleShape) (p : Point) → triangle_right t ≡ true → inside_solid (primitive.Triangle t) p ≡ true → holds (box_of (primitive.Triangle t)) p ≡ true
triangle_box t p right h =
    let frame = within (record { lo = t.zlo; hi = t.zhi }) p.z in
    let between = and_right frame _ h in
    ap₂ ◌&&◌ (columns_around t p.x p.y right between) (ap₂ ◌&&◌ (codes_around t p.x p.y right between) (and_left frame _ h))

-- a primitive lies in its box
pub box_holds : (s : Primitive) (p : Point) → solid_right s ≡ true → inside_solid s p ≡ true → holds (box_of s) p ≡ true
box_holds (primitive.Box b) p right h = h
box_holds (primitive.Wedge w) p right h = and_left (holds (bounds w.bounds) p) (half_space w.a w.b w.c w.d p.x p.y p.z) h
box_holds (primitive.Drum d) p right h = drum_box d p right h
box_holds (primitive.Triangle t) p right h = triangle_box t p right h
