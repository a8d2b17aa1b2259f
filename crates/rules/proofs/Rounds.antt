-- Whichever way round: a triangle whose corners are named in another order holds the same points. Each order comes of exchanging the first two
-- corners and of turning all three on. And the three sides of a point add up to twice the area, whose sign they have where they agree. Assumes nothing.
use Prim.Native.Nat.{zero, suc}
use native.Mathlib.Omega.{arith}
use mathlib.Core.Bool.{Bool, ◌&&◌, ◌||◌, and_comm, and_assoc, or_comm}
use mathlib.Core.Path.{◌≡◌, refl, sym, ap, ap₂, ◌∙◌}
use borrow.Author.Tests.{le-leb, lt-leb}
use lib.IntN.{ℤ, pos, negsuc, neg_ℤ, ◌+ℤ◌, ◌*ℤ◌, ◌-ℤ◌, +ℤ_comm, neg_ℤ-neg_ℤ, neg_ℤ-+ℤ}
use lib.Signed.{le_z}
use Rattle.ground.proofs.Differences.{parts, add_parts, sub_parts, same_parts, differ, less_times, times_less}
use Rattle.rules.specs.declared.Corner.{Corner}
use Rattle.rules.specs.declared.Point.{Point}
use Rattle.rules.specs.declared.TriangleShape.{TriangleShape}
use Rattle.rules.specs.Inside.{one_sided, inside_triangle}
use Rattle.rules.specs.Ranges.{within}
use Rattle.rules.specs.Sides.{side, twice_area}

-- an edge seen from its other end has the other side
side_back : (a b : Corner) (x y : ℤ) → side b a x y ≡ neg_ℤ (side a b x y)
side_back a b x y =
    let here = (a.x -ℤ x) *ℤ (b.y -ℤ y) in
    let there = (b.x -ℤ x) *ℤ (a.y -ℤ y) in
    sym (neg_ℤ-+ℤ here (neg_ℤ there) ∙ ap (λ (z : ℤ). neg_ℤ here +ℤ z) (neg_ℤ-neg_ℤ there) ∙ +ℤ_comm (neg_ℤ here) there)

above_back : (z : ℤ) → le_z (pos 0) (neg_ℤ z) ≡ le_z z (pos 0)
above_back (pos zero) = refl
above_back (pos (suc n)) = sym (lt-leb (suc n) 0 (omega arith))
above_back (negsuc n) = le-leb 0 (suc n) (omega arith)

below_back : (z : ℤ) → le_z (neg_ℤ z) (pos 0) ≡ le_z (pos 0) z
below_back (pos zero) = refl
below_back (pos (suc n)) = sym (le-leb 0 (suc n) (omega arith))
below_back (negsuc n) = lt-leb (suc n) 0 (omega arith)

one_sided_turned : (u v w : ℤ) → one_sided v w u ≡ one_sided u v w
one_sided_turned u v w = ap₂ ◌||◌ (turned (le_z (pos 0) u) (le_z (pos 0) v) (le_z (pos 0) w)) (turned (le_z u (pos 0)) (le_z v (pos 0)) (le_z w (pos 0)))
  where
    turned : (p q r : Bool) → (q && (r && p)) ≡ (p && (q && r))
    turned p q r = sym (and_assoc q r p) ∙ and_comm (q && r) p

one_sided_back : (u v w : ℤ) → one_sided (neg_ℤ u) (neg_ℤ w) (neg_ℤ v) ≡ one_sided u v w
one_sided_back u v w =
    (λ i. (above_back u i && (above_back w i && above_back v i)) || (below_back u i && (below_back w i && below_back v i)))
    ∙ or_comm (le_z u (pos 0) && (le_z w (pos 0) && le_z v (pos 0))) (le_z (pos 0) u && (le_z (pos 0) w && le_z (pos 0) v))
    ∙ ap₂ ◌||◌ (ap (λ (b : Bool). le_z (pos 0) u && b) (and_comm (le_z (pos 0) w) (le_z (pos 0) v))) (ap (λ (b : Bool). le_z u (pos 0) && b) (and_comm (le_z w (pos 0)) (le_z v (pos 0))))

module _ (t : TriangleShape) (p : Point) where
  abbrev framed : Bool
  framed = within (record { lo = t.zlo; hi = t.zhi }) p.z

  abbrev between : Corner → Corner → ℤ
  between a b = side a b p.x p.y

  pub corners_turned : inside_triangle (record { first = t.second; second = t.third; third = t.first; zlo = t.zlo; zhi = t.zhi }) p ≡ inside_triangle t p
  corners_turned = ap (λ (b : Bool). framed && b) (one_sided_turned (between t.first t.second) (between t.second t.third) (between t.third t.first))

  pub corners_exchanged : inside_triangle (record { first = t.second; second = t.first; third = t.third; zlo = t.zlo; zhi = t.zhi }) p ≡ inside_triangle t p
  corners_exchanged =
      let u = side_back t.first t.second p.x p.y in
      let v = side_back t.second t.third p.x p.y in
      let w = side_back t.third t.first p.x p.y in
      (λ i. framed && one_sided (u i) (w i) (v i))
      ∙ ap (λ (b : Bool). framed && b) (one_sided_back (between t.first t.second) (between t.second t.third) (between t.third t.first))

-- ---- the three sides add up to twice the area

-- seven numbers, taken away and added in two ways
shuffled : (A B C D E F G : ℤ) → A -ℤ B -ℤ (C -ℤ D) -ℤ (E -ℤ F -ℤ (G -ℤ D)) ≡ A -ℤ E +ℤ (F -ℤ C) +ℤ (G -ℤ B)
shuffled A B C D E F G =
    let (a, a', p) = parts A in
    let (b, b', q) = parts B in
    let (c, c', r) = parts C in
    let (d, d', s) = parts D in
    let (e, e', t) = parts E in
    let (f, f', u) = parts F in
    let (g, g', v) = parts G in
    same_parts (sub_parts (sub_parts (sub_parts p q) (sub_parts r s)) (sub_parts (sub_parts t u) (sub_parts v s)))
    (add_parts (add_parts (sub_parts p t) (sub_parts u r)) (sub_parts v q)) (omega arith)

pub sides_add : (t : TriangleShape) (x y : ℤ) → side t.first t.second x y +ℤ side t.second t.third x y +ℤ side t.third t.first x y ≡ twice_area t
sides_add t x y =
    let p = t.first.x -ℤ x in
    let P = t.first.y -ℤ y in
    let q = t.second.x -ℤ x in
    let Q = t.second.y -ℤ y in
    let r = t.third.x -ℤ x in
    let R = t.third.y -ℤ y in
    sym ((λ i. differ t.first.x t.third.x x i *ℤ differ t.second.y t.third.y y i -ℤ differ t.second.x t.third.x x i *ℤ differ t.first.y t.third.y y i)
    ∙ ap₂ ◌-ℤ◌ (less_times p r (Q -ℤ R) ∙ ap₂ ◌-ℤ◌ (times_less p Q R) (times_less r Q R)) (less_times q r (P -ℤ R) ∙ ap₂ ◌-ℤ◌ (times_less q P R) (times_less r P R))
    ∙ shuffled (p *ℤ Q) (p *ℤ R) (r *ℤ Q) (r *ℤ R) (q *ℤ P) (q *ℤ R) (r *ℤ P))
