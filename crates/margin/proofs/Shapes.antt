-- A wedge, a triangle and a drum say the same of two points whose places are as close as their slack. Assumes nothing.
use Prim.Native.Nat.{ℕ, ◌+◌, ◌*◌, ◌≤◌}
use native.Mathlib.Nat.{le_refl, le_trans, mul-le-mul_left}
use native.Mathlib.Omega.{arith}
use mathlib.Core.Bool.{Bool, true, ◌&&◌, ◌||◌}
use mathlib.Core.Path.{◌≡◌, sym, ap, ap₂, ◌∙◌}
use lib.IntN.{ℤ, nat_abs, ◌+ℤ◌, ◌-ℤ◌, ◌*ℤ◌, +ℤ_comm}
use lib.Signed.{le_z}
use Rattle.ground.proofs.Differences.{parts, add_parts, sub_parts, mul_parts, same_parts, abs_parts, differ, times_less, le_over}
use Rattle.ground.proofs.Num.{abs_mul}
use Rattle.rules.specs.declared.Axis.TheVariants.{Frame}
use Rattle.rules.specs.declared.Corner.{Corner}
use Rattle.rules.specs.declared.DrumShape.{DrumShape}
use Rattle.rules.specs.declared.Point.{Point}
use Rattle.rules.specs.declared.Primitive.TheVariants as primitive
use Rattle.rules.specs.declared.TriangleShape.{TriangleShape}
use Rattle.rules.specs.declared.WedgeShape.{WedgeShape}
use Rattle.rules.specs.Boxes.{holds, everywhere}
use Rattle.rules.specs.Inside.{square}
use Rattle.rules.specs.ListWords.{raised}
use Rattle.rules.specs.Ranges.{within}
use Rattle.rules.specs.Sides.{side}
use Rattle.laws.proofs.Ranges.{x_in, y_in}
use Rattle.span.specs.Along.{value}
use Rattle.margin.specs.Edges.{most_steps, Slack, past_plane, edge_weight, past_ellipse, bend_weight}
use Rattle.margin.specs.Margins.{Close, Margin}
use Rattle.margin.proofs.Signs.{Moves, sign_kept, product_most, both_move, sum_kept}
use Rattle.margin.proofs.Spots.{near_value}

-- how far a close place is from the point
module _ (p : Point) (h : holds everywhere p ≡ true) {m a b : ℕ} (c : Close m (raised Frame p.x) (raised Frame p.y) a b) where
  across : nat_abs (value a -ℤ p.x) ≤ m
  across = near_value p.x (x_in p h) m a (omega (arith, c)) c.until

  along : nat_abs (value b -ℤ p.y) ≤ m
  along = near_value p.y (y_in p h) m b c.low c.high

-- ---- a wedge

slope_moves : (k v v' : ℤ) {m : ℕ} → nat_abs (v' -ℤ v) ≤ m → Moves (k *ℤ v) (k *ℤ v') m (nat_abs k)
slope_moves k v v' h = record { by = rw (← (times_less k v' v)) (product_most k (v' -ℤ v) (le_refl (nat_abs k)) h) }

by_frame : (S k d : ℤ) → le_z (S +ℤ k) d ≡ le_z S (d -ℤ k)
by_frame S k d = ap (λ (z : ℤ). le_z z d) (+ℤ_comm S k) ∙ le_over k S d

module _ (w : WedgeShape) (p : Point) (m : ℕ) (h : holds everywhere p ≡ true) where
  abbrev sum : ℤ → ℤ → ℤ
  sum x y = w.a *ℤ x +ℤ w.b *ℤ y

  abbrev frame : ℤ
  frame = w.c *ℤ p.z

  pub wedge_kept : Slack (past_plane w.a w.b w.c w.d p.x p.y p.z) (nat_abs w.a + nat_abs w.b) m → Margin (primitive.Wedge w) p m
  wedge_kept slack = record {
    same = λ a b c k l.
        ap₂ ◌&&◌ (l ∙ sym k)
        (by_frame (sum (value a) (value b)) frame w.d
        ∙ sum_kept (w.d -ℤ frame) (slope_moves w.a p.x (value a) (across p h c)) (slope_moves w.b p.y (value b) (along p h c)) slack
        ∙ sym (by_frame (sum p.x p.y) frame w.d));
  }

-- ---- a triangle

side_change : (a b : Corner) (x y x' y' : ℤ) → side a b x' y' -ℤ side a b x y ≡ (a.y -ℤ b.y) *ℤ (x' -ℤ x) +ℤ (b.x -ℤ a.x) *ℤ (y' -ℤ y)
side_change a b x y x' y' =
    let (k, k', p) = parts (a.x -ℤ x) in
    let (l, l', q) = parts (b.x -ℤ x) in
    let (m, m', r) = parts (a.y -ℤ y) in
    let (n, n', s) = parts (b.y -ℤ y) in
    let (i, i', f) = parts (x' -ℤ x) in
    let (j, j', g) = parts (y' -ℤ y) in
    rw (differ a.x x' x, differ b.x x' x, differ a.y y' y, differ b.y y' y, differ a.y b.y y, differ b.x a.x x)
    (same_parts
    (sub_parts (sub_parts (mul_parts (sub_parts p f) (sub_parts s g)) (mul_parts (sub_parts q f) (sub_parts r g))) (sub_parts (mul_parts p s) (mul_parts q r)))
    (add_parts (mul_parts (sub_parts r s) f) (mul_parts (sub_parts q p) g))
    (omega arith))

module _ (t : TriangleShape) (p : Point) (m : ℕ) (h : holds everywhere p ≡ true) where
  side_moves : {a b : ℕ} (u v : Corner) → Close m (raised Frame p.x) (raised Frame p.y) a b → Moves (side u v p.x p.y) (side u v (value a) (value b)) m (edge_weight u v)
  side_moves {a} {b} u v c =
      let i = value a -ℤ p.x in
      let j = value b -ℤ p.y in
      let by_column = u.y -ℤ v.y in
      let by_code = v.x -ℤ u.x in
      both_move (nat_abs by_column) (nat_abs by_code) (by_column *ℤ i) (by_code *ℤ j) (side_change u v p.x p.y (value a) (value b))
      (product_most by_column i (le_refl (nat_abs by_column)) (across p h c)) (product_most by_code j (le_refl (nat_abs by_code)) (along p h c))

  abbrev EdgeSlack : Corner → Corner → Type 0
  EdgeSlack u v = Slack (side u v p.x p.y) (edge_weight u v) m

  pub triangle_kept : EdgeSlack t.first t.second → EdgeSlack t.second t.third → EdgeSlack t.third t.first → Margin (primitive.Triangle t) p m
  triangle_kept first second third = record {
    same = λ a b c k l.
        let u = sign_kept (side_moves t.first t.second c) first in
        let v = sign_kept (side_moves t.second t.third c) second in
        let w = sign_kept (side_moves t.third t.first c) third in
        ap (λ (sided : Bool). within (record { lo = t.zlo; hi = t.zhi }) p.z && sided) (λ i. (u.1 i && (v.1 i && w.1 i)) || (u.0 i && (v.0 i && w.0 i)));
  }

-- ---- a drum

-- one axis: r²(v - c)² changes with v by r² times the sum of both distances
module _ (r c v v' : ℤ) where
  abbrev bend : ℤ
  bend = square r *ℤ ((v' -ℤ c) +ℤ (v -ℤ c))

  bend_change : square r *ℤ square (v' -ℤ c) -ℤ square r *ℤ square (v -ℤ c) ≡ bend *ℤ (v' -ℤ v)
  bend_change =
      let (k, k', p) = parts (square r) in
      let (l, l', q) = parts (v' -ℤ c) in
      let (m, m', s) = parts (v -ℤ c) in
      rw (differ v' v c)
      (same_parts (sub_parts (mul_parts p (mul_parts q q)) (mul_parts p (mul_parts s s))) (mul_parts (mul_parts p (add_parts q s)) (sub_parts q s)) (omega arith))

  bend_most : nat_abs (v' -ℤ v) ≤ most_steps → nat_abs bend ≤ bend_weight r c v
  bend_most h =
      let (l, l', q) = parts (v' -ℤ c) in
      let (m, m', s) = parts (v -ℤ c) in
      let moved : nat_abs ((v' -ℤ c) -ℤ (v -ℤ c)) ≤ most_steps = rw (← (differ v' v c)) h in
      let both : nat_abs ((v' -ℤ c) +ℤ (v -ℤ c)) ≤ 2 * nat_abs (v -ℤ c) + most_steps = omega (arith, moved, abs_parts (sub_parts q s), abs_parts (add_parts q s), abs_parts s) in
      rw (abs_mul (square r) ((v' -ℤ c) +ℤ (v -ℤ c))) (mul-le-mul_left (nat_abs (square r)) both)

  bend_moves : {m : ℕ} → m ≤ most_steps → nat_abs (v' -ℤ v) ≤ m → Moves (square r *ℤ square (v -ℤ c)) (square r *ℤ square (v' -ℤ c)) m (bend_weight r c v)
  bend_moves few h = record { by = rw bend_change (product_most bend (v' -ℤ v) (bend_most (le_trans h few)) h) }

module _ (d : DrumShape) (p : Point) (m : ℕ) (h : holds everywhere p ≡ true) (few : m ≤ most_steps) where
  pub drum_kept : Slack (past_ellipse d.cx d.cy d.rx d.ry p.x p.y) (bend_weight d.ry d.cx p.x + bend_weight d.rx d.cy p.y) m
      → Margin (primitive.Drum d) p m
  drum_kept slack = record {
    same = λ a b c k l.
        let x = bend_moves d.ry d.cx p.x (value a) few (across p h c) in
        let y = bend_moves d.rx d.cy p.y (value b) few (along p h c) in
        ap (λ (within-ellipse : Bool). within (record { lo = d.zlo; hi = d.zhi }) p.z && within-ellipse) (sum_kept (square d.rx *ℤ square d.ry) x y slack);
  }
