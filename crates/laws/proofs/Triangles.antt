-- A triangle holds no point out of its box. Arrows run from the point to the corners: if all three have a part in one direction, and the point
-- is on no edge's wrong side, its three sides are 0; they add up to twice the area, so the triangle is flat. Assumes nothing.
use Prim.Native.Nat.{ℕ, zero, suc, ◌+◌, ◌-◌, ◌*◌, ◌≤◌, ◌<◌}
use native.Mathlib.Nat.{mul-le-mul_left, eq_of_mul-eq-mul_left}
use native.Mathlib.Omega.{arith}
use mathlib.Core.Bool.{Bool, true, false, ◌&&◌, ◌||◌}
use mathlib.Core.Logic.{◌⊎◌, inl, inr}
use mathlib.Core.Path.{◌≡◌, refl, sym, ap, ap₂, ◌∙◌}
use borrow.Author.Tests.{leb-true, leb-false}
use lib.IntN.{ℤ, pos, neg_ℤ, sub_ℕ, ◌+ℤ◌, ◌-ℤ◌, ◌*ℤ◌, +ℤ_comm, neg_ℤ-neg_ℤ, neg_ℤ-+ℤ}
use lib.Signed.{le_z}
use Rattle.ground.specs.Tests.{eq_z}
use Rattle.ground.proofs.Branches.{false_true, and_left, or_cases}
use Rattle.ground.proofs.Differences.{is_pos, difference, same_difference, le_differences, neg_difference, sub_differences, mul_differences}
use Rattle.rules.specs.declared.Corner.{Corner}
use Rattle.rules.specs.declared.TriangleShape.{TriangleShape}
use Rattle.rules.specs.Fields.{triangle_right}
use Rattle.rules.specs.Inside.{one_sided}
use Rattle.rules.specs.Ranges.{within, lesser, greater, around}
use Rattle.rules.specs.Sides.{side}
use Rattle.rules.proofs.Rounds.{sides_add}
use Rattle.laws.proofs.Ranges.{second, third, not_flat}
use Rattle.laws.proofs.Spaces.{lesser_most, greater_least}

record Arrow : Type 0 where
  right : ℤ
  up : ℤ

-- from a point to a corner
abbrev arrow : ℤ → ℤ → Corner → Arrow
arrow x y c = record { right = c.x -ℤ x; up = c.y -ℤ y }

-- twice the area that two arrows span: the side of an edge, from the arrows to its ends
abbrev spanned : Arrow → Arrow → ℤ
spanned a b = a.right *ℤ b.up -ℤ b.right *ℤ a.up

-- the point is on no edge's wrong side; and its three sides together
abbrev beside : Arrow → Arrow → Arrow → Bool
beside a b c = one_sided (spanned a b) (spanned b c) (spanned c a)

abbrev total : Arrow → Arrow → Arrow → ℤ
total a b c = spanned a b +ℤ spanned b c +ℤ spanned c a

-- a quarter turn
abbrev turn : Arrow → Arrow
turn a = record { right = a.up; up = neg_ℤ a.right }

-- ---- a quarter turn changes no side

-- what the area is the difference of, for arrows (p - p', P - P') and (q - q', Q - Q')
abbrev plus : ℕ → ℕ → ℕ → ℕ → ℕ → ℕ → ℕ → ℕ → ℕ
plus p p' P P' q q' Q Q' = p * Q + p' * Q' + (q * P' + q' * P)

abbrev minus : ℕ → ℕ → ℕ → ℕ → ℕ → ℕ → ℕ → ℕ → ℕ
minus p p' P P' q q' Q Q' = p * Q' + p' * Q + (q * P + q' * P')

spanned_difference : (p p' P P' q q' Q Q' : ℕ)
    → spanned (record { right = sub_ℕ p p'; up = sub_ℕ P P' }) (record { right = sub_ℕ q q'; up = sub_ℕ Q Q' }) ≡ sub_ℕ (plus p p' P P' q q' Q Q') (minus p p' P P' q q' Q Q')
spanned_difference p p' P P' q q' Q Q' =
    ap₂ ◌-ℤ◌ (mul_differences p p' Q Q') (mul_differences q q' P P') ∙ sub_differences (p * Q + p' * Q') (p * Q' + p' * Q) (q * P + q' * P') (q * P' + q' * P)

turned : (a b : Arrow) → spanned (turn a) (turn b) ≡ spanned a b
turned a b =
    let (p, p', e) = difference a.right in
    let (P, P', f) = difference a.up in
    let (q, q', g) = difference b.right in
    let (Q, Q', h) = difference b.up in
    rw (e, f, g, h, neg_difference p p', neg_difference q q')
    (spanned_difference P P' p' p Q Q' q' q
    ∙ same_difference (plus P P' p' p Q Q' q' q) (minus P P' p' p Q Q' q' q) (plus p p' P P' q q' Q Q') (minus p p' P P' q q' Q Q') (omega arith)
    ∙ sym (spanned_difference p p' P P' q q' Q Q'))

-- ---- all corners on one side of the point

-- r, p and q times the three sides add up to 0; so where none of them is below 0 each is 0
level : (p q r a b c y : ℕ) → 0 < p → 0 < q → 0 < r → p * y + q * a ≤ p * b + q * y → q * y + r * b ≤ q * c + r * y → r * y + p * c ≤ r * a + p * y
    → (p * b + q * y ≡ p * y + q * a) × (q * c + r * y ≡ q * y + r * b) × (r * a + p * y ≡ r * y + p * c)
level p q r a b c y hp hq hr hu hv hw =
    let su = mul-le-mul_left {m = p * y + q * a} {n = p * b + q * y} r hu in
    let sv = mul-le-mul_left {m = q * y + r * b} {n = q * c + r * y} p hv in
    let sw = mul-le-mul_left {m = r * y + p * c} {n = r * a + p * y} q hw in
    (eq_of_mul-eq-mul_left r hr _ _ (omega (arith, su, sv, sw)), eq_of_mul-eq-mul_left p hp _ _ (omega (arith, su, sv, sw)), eq_of_mul-eq-mul_left q hq _ _ (omega (arith, su, sv, sw)))

at_least_0 : (a b : ℕ) → le_z (pos 0) (sub_ℕ a b) ≡ true → b ≤ a
at_least_0 a b h = omega (arith, leb-true (0 + b) (a + 0) (sym (le_differences 0 0 a b) ∙ h))

at_most_0 : (a b : ℕ) → le_z (sub_ℕ a b) (pos 0) ≡ true → a ≤ b
at_most_0 a b h = omega (arith, leb-true (a + 0) (0 + b) (sym (le_differences a b 0 0) ∙ h))

-- arrows to the right by p, q and r, and up by a - y, b - y and c - y
module _ (p q r a b c y : ℕ) (hp : 0 < p) (hq : 0 < q) (hr : 0 < r) where
  abbrev to : ℕ → ℕ → Arrow
  to n m = record { right = sub_ℕ n 0; up = sub_ℕ m y }

  edge : (n m k l : ℕ) → spanned (to n m) (to k l) ≡ sub_ℕ (n * l + k * y) (n * y + k * m)
  edge n m k l = spanned_difference n 0 m y k 0 l y ∙ same_difference (plus n 0 m y k 0 l y) (minus n 0 m y k 0 l y) (n * l + k * y) (n * y + k * m) (omega arith)

  -- the three sides are at least 0, or at most 0
  lie_level : beside (to p a) (to q b) (to r c) ≡ true → (p * b + q * y ≡ p * y + q * a) × (q * c + r * y ≡ q * y + r * b) × (r * a + p * y ≡ r * y + p * c)
  lie_level h = go (or_cases _ _ (sym (λ i. one_sided (edge p a q b i) (edge q b r c i) (edge r c p a i)) ∙ h))
    where
      u : ℤ
      u = sub_ℕ (p * b + q * y) (p * y + q * a)

      v : ℤ
      v = sub_ℕ (q * c + r * y) (q * y + r * b)

      w : ℤ
      w = sub_ℕ (r * a + p * y) (r * y + p * c)

      go : ((le_z (pos 0) u && (le_z (pos 0) v && le_z (pos 0) w)) ≡ true) ⊎ ((le_z u (pos 0) && (le_z v (pos 0) && le_z w (pos 0))) ≡ true)
          → (p * b + q * y ≡ p * y + q * a) × (q * c + r * y ≡ q * y + r * b) × (r * a + p * y ≡ r * y + p * c)
      go (inl h) =
          let hu = at_least_0 (p * b + q * y) (p * y + q * a) (and_left (le_z (pos 0) u) _ h) in
          let hv = at_least_0 (q * c + r * y) (q * y + r * b) (second (le_z (pos 0) u) (le_z (pos 0) v) _ h) in
          let hw = at_least_0 (r * a + p * y) (r * y + p * c) (third (le_z (pos 0) u) (le_z (pos 0) v) _ h) in
          level p q r a b c y hp hq hr hu hv hw
      go (inr h) =
          let hu = at_most_0 (p * b + q * y) (p * y + q * a) (and_left (le_z u (pos 0)) _ h) in
          let hv = at_most_0 (q * c + r * y) (q * y + r * b) (second (le_z u (pos 0)) (le_z v (pos 0)) _ h) in
          let hw = at_most_0 (r * a + p * y) (r * y + p * c) (third (le_z u (pos 0)) (le_z v (pos 0)) _ h) in
          let e = level q p r b a c y hq hp hr (omega (arith, hu)) (omega (arith, hw)) (omega (arith, hv)) in
          (omega (arith, e.0), omega (arith, e.2), omega (arith, e.1))

  all_0 : beside (to p a) (to q b) (to r c) ≡ true → total (to p a) (to q b) (to r c) ≡ pos 0
  all_0 h =
      let (u, v, w) = lie_level h in
      let first = edge p a q b ∙ is_pos (p * b + q * y) (p * y + q * a) 0 (omega (arith, u)) in
      let second = edge q b r c ∙ is_pos (q * c + r * y) (q * y + r * b) 0 (omega (arith, v)) in
      let third = edge r c p a ∙ is_pos (r * a + p * y) (r * y + p * c) 0 (omega (arith, w)) in
      λ i. first i +ℤ second i +ℤ third i

-- an arrow has a part to the right
Ahead : Arrow → Type 0
Ahead a = (n : ℕ) × (a.right ≡ pos (suc n))

-- such an arrow, its way up held against a number that others share
placed : (a : Arrow) (n m m' k y : ℕ) → a.right ≡ pos (suc n) → a.up ≡ sub_ℕ m m' → m + y ≡ k + m' → a ≡ record { right = sub_ℕ (suc n) 0; up = sub_ℕ k y }
placed a n m m' k y e f g = λ d. record { right = (e ∙ sym (is_pos (suc n) 0 (suc n) (omega arith))) d; up = (f ∙ same_difference m m' k y g) d }

all_ahead : (a b c : Arrow) → Ahead a → Ahead b → Ahead c → beside a b c ≡ true → total a b c ≡ pos 0
unfolding Ahead
all_ahead a b c (p, e) (q, f) (r, g) h =
    let (A, A', i) = difference a.up in
    let (B, B', j) = difference b.up in
    let (C, C', k) = difference c.up in
    let y = A' + B' + C' in
    let a_is = placed a p A A' (A + B' + C') y e i (omega arith) in
    let b_is = placed b q B B' (B + A' + C') y f j (omega arith) in
    let c_is = placed c r C C' (C + A' + B') y g k (omega arith) in
    (λ d. total (a_is d) (b_is d) (c_is d))
    ∙ all_0 (suc p) (suc q) (suc r) (A + B' + C') (B + A' + C') (C + A' + B') y (omega arith) (omega arith) (omega arith) (sym (λ d. beside (a_is d) (b_is d) (c_is d)) ∙ h)

-- and so, after quarter turns, in each direction
turns : ℕ → Arrow → Arrow
turns zero a = a
turns (suc n) a = turns n (turn a)

all_beyond : (n : ℕ) (a b c : Arrow) → Ahead (turns n a) → Ahead (turns n b) → Ahead (turns n c) → beside a b c ≡ true → total a b c ≡ pos 0
unfolding turns
all_beyond zero a b c ha hb hc h = all_ahead a b c ha hb hc h
all_beyond (suc n) a b c ha hb hc h =
    sym (λ i. turned a b i +ℤ turned b c i +ℤ turned c a i)
    ∙ all_beyond n (turn a) (turn b) (turn c) ha hb hc ((λ i. one_sided (turned a b i) (turned b c i) (turned c a i)) ∙ h)

-- ---- the box

past : (a x : ℤ) → le_z a x ≡ false → (n : ℕ) × (a -ℤ x ≡ pos (suc n))
past a x h =
    let (p, p', e) = difference a in
    let (k, k', f) = difference x in
    let l : k + p' < p + k' = leb-false (p + k') (k + p') (sym (le_differences p p' k k') ∙ sym (λ i. le_z (e i) (f i)) ∙ h) in
    (p + k' - suc (p' + k), (λ i. e i -ℤ f i) ∙ sub_differences p p' k k' ∙ is_pos (p + k') (p' + k) (suc (p + k' - suc (p' + k))) (omega (arith, l)))

short : (a x : ℤ) → le_z x a ≡ false → (n : ℕ) × (neg_ℤ (a -ℤ x) ≡ pos (suc n))
short a x h = let (n, e) = past x a h in (n, neg_ℤ-+ℤ a (neg_ℤ x) ∙ ap (λ (z : ℤ). neg_ℤ a +ℤ z) (neg_ℤ-neg_ℤ x) ∙ +ℤ_comm (neg_ℤ a) x ∙ e)

-- a number that is not beyond all three on either side is between them
in_around : (a b c v : ℤ) → (le_z a v ≡ false → le_z b v ≡ false → le_z c v ≡ false → ⊥) → (le_z v a ≡ false → le_z v b ≡ false → le_z v c ≡ false → ⊥)
    → within (around a b c) v ≡ true
in_around a b c v low high =
    ap₂ ◌&&◌
    (lesser_most (lesser a b) c v ∙ ap (λ (t : Bool). t || le_z c v) (lesser_most a b v) ∙ some (le_z a v) (le_z b v) (le_z c v) low)
    (greater_least (greater a b) c v ∙ ap (λ (t : Bool). t || le_z v c) (greater_least a b v) ∙ some (le_z v a) (le_z v b) (le_z v c) high)
  where
    some : (p q r : Bool) → (p ≡ false → q ≡ false → r ≡ false → ⊥) → ((p || q) || r) ≡ true
    some true q r f = refl
    some false true r f = refl
    some false false true f = refl
    some false false false f = absurd (f refl refl refl)

module _ (t : TriangleShape) (x y : ℤ) (right : triangle_right t ≡ true)
    (h : one_sided (side t.first t.second x y) (side t.second t.third x y) (side t.third t.first x y) ≡ true) where
  abbrev a : Arrow
  a = arrow x y t.first

  abbrev b : Arrow
  b = arrow x y t.second

  abbrev c : Arrow
  c = arrow x y t.third

  none_beyond : (n : ℕ) → Ahead (turns n a) → Ahead (turns n b) → Ahead (turns n c) → ⊥
  none_beyond n ha hb hc = false_true (sym (not_flat t right) ∙ ap (λ (z : ℤ). eq_z z (pos 0)) (sym (sides_add t x y) ∙ all_beyond n a b c ha hb hc h))

  pub columns_around : within (around t.first.x t.second.x t.third.x) x ≡ true
  unfolding Ahead turns
  columns_around =
      in_around t.first.x t.second.x t.third.x x
      (λ p q r. none_beyond 0 (past t.first.x x p) (past t.second.x x q) (past t.third.x x r))
      (λ p q r. none_beyond 2 (short t.first.x x p) (short t.second.x x q) (short t.third.x x r))

  pub codes_around : within (around t.first.y t.second.y t.third.y) y ≡ true
  unfolding Ahead turns
  codes_around =
      in_around t.first.y t.second.y t.third.y y
      (λ p q r. none_beyond 1 (past t.first.y y p) (past t.second.y y q) (past t.third.y y r))
      (λ p q r. none_beyond 3 (short t.first.y y p) (short t.second.y y q) (short t.third.y y r))
