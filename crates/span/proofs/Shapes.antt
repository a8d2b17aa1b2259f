-- What a primitive holds of a column's codes: nothing out of reach of its box; and what a box, a wedge and a triangle hold, from the stretches of their
-- parts. Assumes nothing.
use Prim.Native.Nat.{ℕ, zero, suc, ◌+◌, ◌≤◌}
use native.Mathlib.Omega.{arith}
use mathlib.Core.Bool.{Bool, true, false, not, ◌&&◌, ◌||◌, and-true, and-false}
use mathlib.Core.Path.{◌≡◌, refl, sym, ap, ap₂, ◌∙◌}
use borrow.Author.Tests.{leb-true, leb-false, lt-ltb, ltb-false}
use lib.IntN.{ℤ, pos, negsuc, neg_ℤ, ◌+ℤ◌, ◌-ℤ◌, ◌*ℤ◌, +ℤ_assoc, +ℤ_comm, neg_ℤ-neg_ℤ, neg_ℤ-+ℤ}
use lib.Signed.{le_z, lt_z}
use Rattle.ground.specs.Tests.{eq_z}
use Rattle.ground.proofs.Branches.{false_true, and_left}
use Rattle.ground.proofs.Differences.{Parts, parts, pos_parts, add_parts, le_parts, le_over}
use Rattle.rules.specs.declared.BoxShape.{BoxShape}
use Rattle.rules.specs.declared.Point.{Point}
use Rattle.rules.specs.declared.Primitive.{Primitive}
use Rattle.rules.specs.declared.TriangleShape.{TriangleShape}
use Rattle.rules.specs.declared.WedgeShape.{WedgeShape}
use Rattle.rules.specs.Boxes.{holds}
use Rattle.rules.specs.Fields.{triangle_right}
use Rattle.rules.specs.Inside.{bounds, half_space, one_sided, inside_wedge, inside_triangle, inside_solid}
use Rattle.rules.specs.Products.{box_of}
use Rattle.rules.specs.Ranges.{within}
use Rattle.rules.specs.Sides.{side, twice_area}
use Rattle.rules.proofs.Rounds.{sides_add, corners_exchanged}
use Rattle.laws.specs.Sound.{solid_right}
use Rattle.laws.proofs.Ranges.{second, third, not_flat}
use Rattle.laws.proofs.Spaces.{not_less}
use Rattle.laws.proofs.InBox.{box_holds}
use Rattle.span.specs.declared.Stretch.{Stretch}
use Rattle.span.specs.Along.{value, Along, code_point, beside, plane_left, ahead}
use Rattle.span.proofs.Along.{as_along, let_through}

-- ---- out of reach: nothing is held of a column, or of a frame, that the primitive's box has not

pub out_of_reach : (s : Primitive) (p : Point) {r : Stretch} → solid_right s ≡ true → beside (box_of s) p ≡ false → Along (λ v. false) r
    → Along (λ v. inside_solid s (code_point p v)) r
out_of_reach s p right h A =
    as_along (λ v l. nowhere (inside_solid s (code_point p v)) (within (box_of s).x p.x) (within (box_of s).y (value v)) (within (box_of s).z p.z) (box_holds s (code_point p v) right) h) A
  where
    nowhere : (i x y z : Bool) → (i ≡ true → (x && (y && z)) ≡ true) → (x && z) ≡ false → i ≡ false
    nowhere true x y z f h = false_true (sym h ∙ ap₂ ◌&&◌ (and_left x (y && z) (f refl)) (third x y z (f refl)))
    nowhere false x y z f h = refl

-- ---- a box: its columns and frames let its codes through

module _ (b : BoxShape) where
  pub box_meets : (p : Point) {s : Stretch} → beside (bounds b) p ≡ true → Along (λ v. within (bounds b).y (value v)) s → Along (λ v. holds (bounds b) (code_point p v)) s
  box_meets p h A =
      as_along (λ v l. middle (within (bounds b).x p.x) (within (bounds b).y (value v)) (within (bounds b).z p.z)) (let_through (λ v. within (bounds b).y (value v)) (beside (bounds b) p) h A)
    where
      middle : (x y z : Bool) → (x && (y && z)) ≡ ((x && z) && y)
      middle true true z = sym (and-true z)
      middle true false z = sym (and-false z)
      middle false y z = refl

-- ---- a wedge: its box and its half space

moved : (a b c : ℤ) → a +ℤ b +ℤ c ≡ (a +ℤ c) +ℤ b
moved a b c = +ℤ_assoc a b c ∙ ap (λ (n : ℤ). a +ℤ n) (+ℤ_comm b c) ∙ sym (+ℤ_assoc a c b)

module _ (w : WedgeShape) (p : Point) where
  by_code : (y : ℤ) → half_space w.a w.b w.c w.d p.x y p.z ≡ le_z (w.b *ℤ y) (plane_left w.a p.x w.c p.z w.d)
  by_code y = ap (λ (n : ℤ). le_z n w.d) (moved (w.a *ℤ p.x) (w.b *ℤ y) (w.c *ℤ p.z)) ∙ le_over (w.a *ℤ p.x +ℤ w.c *ℤ p.z) (w.b *ℤ y) w.d

  pub wedge_meets : {r : Stretch} → beside (bounds w.bounds) p ≡ true
      → Along (λ v. within (bounds w.bounds).y (value v) && le_z (w.b *ℤ value v) (plane_left w.a p.x w.c p.z w.d)) r
      → Along (λ v. inside_wedge w (code_point p v)) r
  wedge_meets h A =
      as_along (λ v l. middle (within (bounds w.bounds).x p.x) (within (bounds w.bounds).y (value v)) (within (bounds w.bounds).z p.z) _ _ h (by_code (value v))) A
    where
      middle : (x y z half given : Bool) → (x && z) ≡ true → half ≡ given → ((x && (y && z)) && half) ≡ (y && given)
      middle true true z half given e same = ap₂ ◌&&◌ e same
      middle true false z half given e same = refl
      middle false y z half given e same = false_true e

-- ---- a triangle: its frames, and the sides of its three edges, which add up to twice its area

-- three numbers that add up to more than 0 are not all at most 0
one_way : (u v w : ℤ) → lt_z (pos 0) (u +ℤ v +ℤ w) ≡ true → one_sided u v w ≡ (le_z (pos 0) u && (le_z (pos 0) v && le_z (pos 0) w))
one_way u v w h = first (le_z (pos 0) u && (le_z (pos 0) v && le_z (pos 0) w)) (le_z u (pos 0) && (le_z v (pos 0) && le_z w (pos 0))) not_all
  where
    first : (p q : Bool) → (q ≡ true → ⊥) → (p || q) ≡ p
    first true q f = refl
    first false true f = absurd (f refl)
    first false false f = refl

    nought : Parts (pos 0) 0 0
    nought = pos_parts 0

    at_most : {z : ℤ} {a a' : ℕ} → Parts z a a' → le_z z (pos 0) ≡ true → a ≤ a'
    at_most {z} {a} {a'} p k = omega (arith, leb-true (a + 0) (0 + a') (sym (le_parts p nought) ∙ k))

    not_all : (le_z u (pos 0) && (le_z v (pos 0) && le_z w (pos 0))) ≡ true → ⊥
    not_all k =
        let (a, a', e) = parts u in
        let (b, b', f) = parts v in
        let (c, c', g) = parts w in
        let more = leb-false (a + b + c + 0) (0 + (a' + b' + c'))
        (sym (le_parts (add_parts (add_parts e f) g) nought) ∙ sym (not_less (pos 0) (u +ℤ v +ℤ w)) ∙ ap not h) in
        omega (
          arith,
          more,
          at_most e (and_left (le_z u (pos 0)) (le_z v (pos 0) && le_z w (pos 0)) k),
          at_most f (second (le_z u (pos 0)) (le_z v (pos 0)) (le_z w (pos 0)) k),
          at_most g (third (le_z u (pos 0)) (le_z v (pos 0)) (le_z w (pos 0)) k),
        )

-- what is not 0, and not above 0 one way round, is above 0 the other
other_way : (A B : ℤ) → lt_z (pos 0) (A -ℤ B) ≡ false → eq_z (A -ℤ B) (pos 0) ≡ false → lt_z (pos 0) (B -ℤ A) ≡ true
other_way A B h k = ap (lt_z (pos 0)) (sym (neg_ℤ-+ℤ A (neg_ℤ B) ∙ ap (λ (z : ℤ). neg_ℤ A +ℤ z) (neg_ℤ-neg_ℤ B) ∙ +ℤ_comm (neg_ℤ A) B)) ∙ go (A -ℤ B) h k
  where
    go : (z : ℤ) → lt_z (pos 0) z ≡ false → eq_z z (pos 0) ≡ false → lt_z (pos 0) (neg_ℤ z) ≡ true
    go (pos zero) h k = false_true (sym k)
    go (pos (suc n)) h k = absurd (omega (arith, ltb-false 0 (suc n) h))
    go (negsuc n) h k = lt-ltb 0 (suc n) (omega arith)

module _ (t : TriangleShape) (p : Point) where
  abbrev framed : Bool
  framed = within (record { lo = t.zlo; hi = t.zhi }) p.z

  abbrev sided : ℕ → Bool
  sided v = one_sided (side t.first t.second p.x (value v)) (side t.second t.third p.x (value v)) (side t.third t.first p.x (value v))

  pub triangle_ahead : {s : Stretch} → framed ≡ true → lt_z (pos 0) (twice_area t) ≡ true → Along (λ v. ahead t.first t.second t.third p.x (value v)) s
      → Along (λ v. inside_triangle t (code_point p v)) s
  triangle_ahead f h A =
      let_through sided framed f
      (as_along (λ v l. one_way (side t.first t.second p.x (value v)) (side t.second t.third p.x (value v)) (side t.third t.first p.x (value v))
      (ap (lt_z (pos 0)) (sides_add t p.x (value v)) ∙ h)) A)

-- with the first two corners exchanged
pub triangle_back : (t : TriangleShape) (p : Point) {s : Stretch} → triangle_right t ≡ true → within (record { lo = t.zlo; hi = t.zhi }) p.z ≡ true
    → lt_z (pos 0) (twice_area t) ≡ false → Along (λ v. ahead t.second t.first t.third p.x (value v)) s → Along (λ v. inside_triangle t (code_point p v)) s
triangle_back t p right f h A =
    let a = t.first in
    let b = t.second in
    let c = t.third in
    as_along (λ v l. sym (corners_exchanged t (code_point p v)))
    (triangle_ahead (record { first = b; second = a; third = c; zlo = t.zlo; zhi = t.zhi }) p f
    (other_way ((a.x -ℤ c.x) *ℤ (b.y -ℤ c.y)) ((b.x -ℤ c.x) *ℤ (a.y -ℤ c.y)) h (not_flat t right)) A)
