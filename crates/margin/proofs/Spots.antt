-- A point is the spot at its own places, so every primitive has a margin of 0; a box fills its box; close places stand for close numbers. Assumes nothing.
use Prim.Native.Nat.{ℕ, ◌+◌, ◌≤◌}
use native.Mathlib.Omega.{arith}
use mathlib.Core.Bool.{true}
use mathlib.Core.Path.{◌≡◌, sym, ap, ◌∙◌}
use lib.IntN.{ℤ, nat_abs, ◌-ℤ◌}
use Rattle.rules.specs.declared.Axis.TheVariants.{Frame}
use Rattle.rules.specs.declared.BoxShape.{BoxShape}
use Rattle.rules.specs.declared.Point.{Point}
use Rattle.rules.specs.declared.Primitive.{Primitive}
use Rattle.rules.specs.declared.Primitive.TheVariants as primitive
use Rattle.rules.specs.Boxes.{holds, everywhere}
use Rattle.rules.specs.Inside.{inside_solid}
use Rattle.rules.specs.ListWords.{raised}
use Rattle.rules.specs.Ranges.{within, columns}
use Rattle.laws.proofs.Ranges.{framed, x_in, y_in}
use Rattle.span.specs.Along.{value}
use Rattle.span.proofs.Order.{place_back, places_apart}
use Rattle.margin.specs.Margins.{spot, Margin}

pub spot_here : (p : Point) → holds everywhere p ≡ true → spot p.z (raised Frame p.x) (raised Frame p.y) ≡ p
spot_here p h =
    let x = place_back p.x (framed p.x (x_in p h)) in
    let y = place_back p.y (framed p.y (y_in p h)) in
    λ i. record { x = x i; y = y i; z = p.z }

pub point_alone : (s : Primitive) (p : Point) → holds everywhere p ≡ true → Margin s p 0
point_alone s p h = record {
  same = λ a b c k l.
      let column : a ≡ raised Frame p.x = omega (arith, c) in
      let code : b ≡ raised Frame p.y = omega (arith, c) in
      ap (inside_solid s) ((λ i. spot p.z (column i) (code i)) ∙ spot_here p h);
}

pub box_filled : (b : BoxShape) (p : Point) (m : ℕ) → Margin (primitive.Box b) p m
box_filled b p m = record { same = λ x v c k l. l ∙ sym k }

-- a place at most m from a coordinate's stands for a number at most m from it
pub near_value : (c : ℤ) → within columns c ≡ true → (m v : ℕ) → raised Frame c ≤ v + m → v ≤ raised Frame c + m → nat_abs (value v -ℤ c) ≤ m
near_value c h m v low high = omega (arith, places_apart v c (framed c h))
