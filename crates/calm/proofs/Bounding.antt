-- A primitive's answers are bounded by the edges of its box, and its box is in range. Assumes nothing.
use Prim.Native.Nat.{ℕ, ◌≤◌}
use native.Mathlib.Omega.{arith}
use mathlib.Core.Bool.{Bool, true, false, ◌&&◌}
use mathlib.Core.Path.{◌≡◌, refl, sym, ap, ap₂, subst, ◌∙◌}
use borrow.Author.Tests.{leb-true, le-leb}
use lib.Dec.{leb}
use lib.IntN.{ℤ, ◌+ℤ◌, ◌-ℤ◌}
use lib.Signed.{le_z}
use Rattle.std.specs.Prelude.{if◌then◌else◌}
use Rattle.ground.proofs.Branches.{false_true, and_left, and_right}
use Rattle.rules.specs.declared.Axis.TheVariants.{Frame}
use Rattle.rules.specs.declared.BoxShape.{BoxShape}
use Rattle.rules.specs.declared.Point.{Point}
use Rattle.rules.specs.declared.Primitive.{Primitive}
use Rattle.rules.specs.declared.Primitive.TheVariants as primitive
use Rattle.rules.specs.Boxes.{Box, holds, everywhere}
use Rattle.rules.specs.Fields.{radii, box_right, reach_right}
use Rattle.rules.specs.Inside.{bounds, inside_solid}
use Rattle.rules.specs.ListWords.{raised}
use Rattle.rules.specs.Products.{box_of}
use Rattle.rules.specs.Ranges.{within, lesser, greater, around, columns}
use Rattle.laws.specs.Sound.{solid_right}
use Rattle.laws.proofs.InBox.{box_holds}
use Rattle.laws.proofs.Ranges.{framed as has_place, second, third, box_columns_in, box_codes_in, bounds_right, x_reach, y_reach, corner_x_in, corner_y_in, first_right, second_right, third_right, triangle_corners_right}
use Rattle.laws.proofs.Spaces.{by_axis}
use Rattle.span.proofs.Order.{from_place, to_place}
use Rattle.margin.specs.Margins.{spot, Margin}
use Rattle.margin.proofs.Spots.{spot_here}
use Rattle.calm.specs.declared.Edges.{Edges}
use Rattle.calm.specs.Calms.{Ranged, Boxed, BoundedIn, edges_of}

-- ---- in range

-- ends that are columns or codes have places
ranged : (b : Box) → (within columns b.x.lo ≡ true) × (within columns b.x.hi ≡ true) → (within columns b.y.lo ≡ true) × (within columns b.y.hi ≡ true) → Ranged b
ranged b p q = record { xlo = has_place b.x.lo p.0; xhi = has_place b.x.hi p.1; ylo = has_place b.y.lo q.0; yhi = has_place b.y.hi q.1 }

box_ranged : (b : BoxShape) → box_right b ≡ true → Ranged (bounds b)
box_ranged b h = ranged (bounds b) (box_columns_in b h) (box_codes_in b h)

reach_in : (c r : ℤ) → reach_right columns c r ≡ true → (within columns (c -ℤ r) ≡ true) × (within columns (c +ℤ r) ≡ true)
reach_in c r h =
    let low = within columns (c -ℤ r) in
    let high = within columns (c +ℤ r) in
    (second (within radii r) low high h, third (within radii r) low high h)

-- the one of two that is chosen
one_of : (t : Bool) (a b : ℤ) → within columns a ≡ true → within columns b ≡ true → within columns (if t then a else b) ≡ true
one_of true a b h k = h
one_of false a b h k = k

around_in : (a b c : ℤ) → within columns a ≡ true → within columns b ≡ true → within columns c ≡ true
    → (within columns (around a b c).lo ≡ true) × (within columns (around a b c).hi ≡ true)
around_in a b c p q r =
    (one_of (le_z (lesser a b) c) (lesser a b) c (one_of (le_z a b) a b p q) r, one_of (le_z (greater a b) c) c (greater a b) r (one_of (le_z a b) b a q p))

solid_ranged : (s : Primitive) → solid_right s ≡ true → Ranged (box_of s)
solid_ranged (primitive.Box b) h = box_ranged b h
solid_ranged (primitive.Wedge w) h = box_ranged w.bounds (bounds_right w h)
solid_ranged (primitive.Drum d) h = ranged (box_of (primitive.Drum d)) (reach_in d.cx d.rx (x_reach d h)) (reach_in d.cy d.ry (y_reach d h))
solid_ranged (primitive.Triangle t) h =
    let corners = triangle_corners_right t h in
    let a = first_right t corners in
    let b = second_right t corners in
    let c = third_right t corners in
    ranged (box_of (primitive.Triangle t))
    (around_in t.first.x t.second.x t.third.x (corner_x_in t.first a) (corner_x_in t.second b) (corner_x_in t.third c))
    (around_in t.first.y t.second.y t.third.y (corner_y_in t.first a) (corner_y_in t.second b) (corner_y_in t.third c))

module _ (s : Primitive) (right : solid_right s ≡ true) (b : BoxShape) (e : bounds b ≡ box_of s) where
  pub bounds_ranged : Ranged (bounds b)
  bounds_ranged = subst Ranged (sym e) (solid_ranged s right)

  -- ---- bounded

  module _ (p : Point) (h : holds everywhere p ≡ true) where
    abbrev test : ℕ → ℕ → Bool
    test a c = inside_solid s (spot p.z a c)

    refuted : (t : Bool) → (t ≡ true → ⊥) → t ≡ false
    refuted true f = absurd (f refl)
    refuted false f = refl

    -- within the box as its edges say it
    boxed_is : (a c : ℕ) → holds (bounds b) (spot p.z a c) ≡ ((leb (raised Frame b.xlo) a && leb a (raised Frame b.xhi)) && ((leb (raised Frame b.ylo) c && leb c (raised Frame b.yhi)) && within (bounds b).z p.z))
    boxed_is a c =
        by_axis (ap₂ ◌&&◌ (from_place b.xlo bounds_ranged.xlo a) (to_place b.xhi bounds_ranged.xhi a))
        (ap₂ ◌&&◌ (from_place b.ylo bounds_ranged.ylo c) (to_place b.yhi bounds_ranged.yhi c)) refl

    module _ (a c : ℕ) (inside : test a c ≡ true) where
      abbrev x : Bool
      x = leb (raised Frame b.xlo) a && leb a (raised Frame b.xhi)

      abbrev y : Bool
      y = leb (raised Frame b.ylo) c && leb c (raised Frame b.yhi)

      abbrev z : Bool
      z = within (bounds b).z p.z

      all_in : (x && (y && z)) ≡ true
      all_in = sym (boxed_is a c) ∙ ap (λ (box : Box). holds box (spot p.z a c)) e ∙ box_holds s (spot p.z a c) right inside

      x_low : raised Frame b.xlo ≤ a
      x_low = leb-true (raised Frame b.xlo) a (and_left (leb (raised Frame b.xlo) a) (leb a (raised Frame b.xhi)) (and_left x (y && z) all_in))

      x_high : a ≤ raised Frame b.xhi
      x_high = leb-true a (raised Frame b.xhi) (and_right (leb (raised Frame b.xlo) a) (leb a (raised Frame b.xhi)) (and_left x (y && z) all_in))

      y_low : raised Frame b.ylo ≤ c
      y_low = leb-true (raised Frame b.ylo) c (and_left (leb (raised Frame b.ylo) c) (leb c (raised Frame b.yhi)) (second x y z all_in))

      y_high : c ≤ raised Frame b.yhi
      y_high = leb-true c (raised Frame b.yhi) (and_right (leb (raised Frame b.ylo) c) (leb c (raised Frame b.yhi)) (second x y z all_in))

    -- a frame that it has not has none of it
    pub solid_off : within (bounds b).z p.z ≡ false → (a c : ℕ) → test a c ≡ false
    solid_off k a c = refuted (test a c) (λ t. false_true (sym k ∙ third (x a c t) (y a c t) (z a c t) (all_in a c t)))

    module _ (m : ℕ) (M : Margin s p m) where
      abbrev edges : Edges
      edges = edges_of b m

      abbrev column : ℕ
      column = raised Frame p.x

      abbrev code : ℕ
      code = raised Frame p.y

      -- between the edges is in the box, where that has the frame
      in_box : (a c : ℕ) → within (bounds b).z p.z ≡ true → Boxed edges a c → holds (box_of s) (spot p.z a c) ≡ true
      in_box a c framed B =
          ap (λ (box : Box). holds box (spot p.z a c)) (sym e) ∙ boxed_is a c
          ∙ ap₂ ◌&&◌ (ap₂ ◌&&◌ (le-leb edges.columns.lo a B.left) (le-leb a edges.columns.hi B.right))
          (ap₂ ◌&&◌ (ap₂ ◌&&◌ (le-leb edges.codes.lo c B.under) (le-leb c edges.codes.hi B.over)) framed)

      own : inside_solid s p ≡ test column code
      own = ap (inside_solid s) (sym (spot_here p h))

      pub solid_bounded : BoundedIn (within (bounds b).z p.z) test edges column code
      solid_bounded = record {
        off = solid_off;
        on = λ framed. record {
          left = λ a c l. refuted (test a c) (λ t. omega (arith, x_low a c t));
          right = λ a c l. refuted (test a c) (λ t. omega (arith, x_high a c t));
          under = λ a c l. refuted (test a c) (λ t. omega (arith, y_low a c t));
          over = λ a c l. refuted (test a c) (λ t. omega (arith, y_high a c t));
          near = λ a c here there close.
              M.same a c close (subst (λ (q : Point). holds (box_of s) q ≡ true) (spot_here p h) (in_box column code framed here)) (in_box a c framed there) ∙ own;
        };
      }
