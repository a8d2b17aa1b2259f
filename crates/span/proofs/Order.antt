-- The order of whole numbers when a part goes over to the other side; and what it says of a value, said of its place. Assumes nothing.
use Prim.Native.Nat.{ℕ, ◌+◌, ◌-◌, ◌≤◌, ◌<◌}
use native.Mathlib.Omega.{arith}
use mathlib.Core.Bool.{true}
use mathlib.Core.Path.{◌≡◌, sym, ap, ap₂, ◌∙◌}
use lib.Dec.{leb}
use lib.IntN.{ℤ, pos, nat_abs, ◌+ℤ◌, ◌-ℤ◌, ◌*ℤ◌, +ℤ_comm, +ℤ_idr}
use lib.Signed.{le_z}
use mir.Syntax.{w64}
use mir.Val.{of_z}
use Rattle.ground.proofs.Differences.{Parts, parts, pos_parts, add_parts, sub_parts, same_parts, abs_parts, differ, less_times, times_less, le_over, le_back}
use Rattle.ground.proofs.Num.{Num, known, mul_num, sub_num}
use Rattle.rules.specs.declared.Axis.TheVariants.{Frame}
use Rattle.rules.specs.declared.Corner.{Corner}
use Rattle.rules.specs.ListWords.{offset, raised}
use Rattle.rules.specs.Fields.{corner_right}
use Rattle.rules.specs.Ranges.{within, columns, codes, frames}
use Rattle.rules.specs.Sides.{side}
use Rattle.laws.proofs.Axes.{raised_adds, raised_back, raised_most}
use Rattle.laws.proofs.Ranges.{corner_x_in, corner_y_in}
use Rattle.laws.proofs.Spans.{even_span}
use Rattle.span.specs.Along.{places, value}

-- ---- a value and its place

abbrev above : ℤ
above = pos (offset Frame)

pub value_parts : (v : ℕ) → Parts (value v) (v + 0) (0 + offset Frame)
value_parts v = sub_parts (pos_parts v) (pos_parts (offset Frame))

-- values further on and further back, and how far apart two are
pub value_on : (v i : ℕ) → value v +ℤ pos i ≡ value (v + i)
value_on v i = same_parts (add_parts (value_parts v) (pos_parts i)) (value_parts (v + i)) (omega arith)

pub value_back : (v i : ℕ) → i ≤ v → value v -ℤ pos i ≡ value (v - i)
value_back v i l = same_parts (sub_parts (value_parts v) (pos_parts i)) (value_parts (v - i)) (omega arith)

pub values_apart : (lo hi : ℕ) → lo ≤ hi → nat_abs (value hi -ℤ value lo) ≡ hi - lo
values_apart lo hi l = omega (arith, abs_parts (sub_parts (value_parts hi) (value_parts lo)))

-- s y <= e at the value y of place v
pub line_place : (s e : ℤ) (v : ℕ) → le_z (s *ℤ value v) e ≡ le_z (s *ℤ pos v) (e +ℤ s *ℤ above)
line_place s e v = ap (λ (z : ℤ). le_z z e) (times_less s (pos v) above) ∙ le_back (s *ℤ pos v) (s *ℤ above) e

-- a value has a place, which stands for it
pub place_below : (c : ℤ) → within frames c ≡ true → raised Frame c < places
place_below c h = omega (arith, raised_most Frame c h)

pub place_back : (c : ℤ) → within frames c ≡ true → value (raised Frame c) ≡ c
place_back c h = raised_back Frame c h

-- two values are as far apart as their places
pub places_apart : (v : ℕ) (c : ℤ) → within frames c ≡ true → nat_abs (value v -ℤ c) ≡ v - raised Frame c + (raised Frame c - v)
places_apart v c h =
    let other : Parts c (raised Frame c + 0) (0 + offset Frame) = record { is = sym (place_back c h) ∙ (value_parts (raised Frame c)).is } in
    omega (arith, abs_parts (sub_parts (value_parts v) other))

module _ (c : ℤ) (h : within frames c ≡ true) where
  pub value_raised : pos (raised Frame c) ≡ c +ℤ above
  value_raised = raised_adds Frame c h

  module _ (v : ℕ) where
    pub from_place : le_z c (value v) ≡ leb (raised Frame c) v
    from_place = sym (le_over above c (pos v)) ∙ ap (λ (z : ℤ). le_z z (pos v)) (+ℤ_comm above c ∙ sym value_raised)

    pub to_place : le_z (value v) c ≡ leb v (raised Frame c)
    to_place = le_back (pos v) above c ∙ ap (le_z (pos v)) (sym value_raised)

-- ---- an edge: its side of a point by the point's code

exchanged : (A B C D : ℤ) → A -ℤ B -ℤ (C -ℤ D) ≡ A -ℤ C -ℤ (B -ℤ D)
exchanged A B C D =
    let (a, a', e) = parts A in
    let (b, b', f) = parts B in
    let (c, c', g) = parts C in
    let (d, d', h) = parts D in
    same_parts (sub_parts (sub_parts e f) (sub_parts g h)) (sub_parts (sub_parts e g) (sub_parts f h)) (omega arith)

-- by - 0 is by
less_nought : (k z : ℤ) → k *ℤ (z -ℤ pos 0) ≡ k *ℤ z
less_nought k z = ap (λ (n : ℤ). k *ℤ n) (+ℤ_idr z)

-- at code y it is what it is at code 0, less (ax - bx) y
pub side_code : (a b : Corner) (x y : ℤ) → le_z (pos 0) (side a b x y) ≡ le_z ((a.x -ℤ b.x) *ℤ y) (side a b x (pos 0))
side_code a b x y =
    let p = a.x -ℤ x in
    let q = b.x -ℤ x in
    let s = a.x -ℤ b.x in
    ap (le_z (pos 0))
    (ap₂ ◌-ℤ◌ (times_less p b.y y) (times_less q a.y y) ∙ exchanged (p *ℤ b.y) (p *ℤ y) (q *ℤ a.y) (q *ℤ y)
    ∙ ap₂ ◌-ℤ◌ (sym (ap₂ ◌-ℤ◌ (less_nought p b.y) (less_nought q a.y))) (sym (less_times p q y) ∙ ap (λ (z : ℤ). z *ℤ y) (sym (differ a.x b.x x))))
    ∙ sym (le_over (s *ℤ y) (pos 0) (side a b x (pos 0)))
    ∙ ap (λ (z : ℤ). le_z z (side a b x (pos 0))) (+ℤ_idr (s *ℤ y))

-- a coordinate in 64 bits
coordinate : (v : ℤ) → within columns v ≡ true → Num w64 (of_z w64 v) v 32768
coordinate v h = known (record { sfits = omega (arith, even_span 32767 v h) }) (even_span 32767 v h)

-- a side is far from the end of 64 bits
pub side_most : (a b : Corner) (x y : ℤ) → corner_right a ≡ true → corner_right b ≡ true → within columns x ≡ true → within codes y ≡ true → nat_abs (side a b x y) ≤ 8589934592
side_most a b x y ha hb hx hy =
    let at_x = coordinate x hx in
    let at_y = coordinate y hy in
    let ax = sub_num (coordinate a.x (corner_x_in a ha)) at_x tt in
    let ay = sub_num (coordinate a.y (corner_y_in a ha)) at_y tt in
    let bx = sub_num (coordinate b.x (corner_x_in b hb)) at_x tt in
    let by = sub_num (coordinate b.y (corner_y_in b hb)) at_y tt in
    (sub_num (mul_num ax by tt) (mul_num bx ay tt) tt).bound
