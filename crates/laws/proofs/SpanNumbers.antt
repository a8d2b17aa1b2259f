-- The numbers of a span from its lo up and from its hi down: each is in the span; each of the span is one of them; those further down are lower.
-- Assumes nothing.
use Prim.Native.Nat.{ℕ, ◌+◌, ◌≤◌, ◌<◌}
use native.Mathlib.Omega.{arith}
use mathlib.Core.Bool.{true, ◌&&◌}
use mathlib.Core.Path.{◌≡◌, sym, ap₂, ◌∙◌}
use borrow.Author.Tests.{leb-true, le-leb}
use lib.IntN.{ℤ, pos, nat_abs, ◌+ℤ◌, ◌-ℤ◌}
use lib.Signed.{le_z}
use Rattle.ground.proofs.Branches.{and_left, and_right}
use Rattle.ground.proofs.Differences.{parts, pos_parts, add_parts, sub_parts, same_parts, le_parts, abs_parts}
use Rattle.rules.specs.Ranges.{Span, within, size_of}

-- how far hi is above lo is no negative number
pub rises_by : (lo hi : ℤ) → le_z lo hi ≡ true → hi -ℤ lo ≡ pos (nat_abs (hi -ℤ lo))
rises_by lo hi rises =
    let (a, b, g) = parts lo in
    let (c, d, h) = parts hi in
    let up = leb-true (a + d) (c + b) (sym (le_parts g h) ∙ rises) in
    let far = sub_parts h g in
    same_parts far (pos_parts (nat_abs (hi -ℤ lo))) (omega (arith, up, abs_parts far))

module _ (s : Span) where
  abbrev pub down : ℕ → ℤ
  down i = s.hi -ℤ pos i

  pub down_order : (j k : ℕ) → j ≤ k → le_z (down k) (down j) ≡ true
  down_order j k l =
      let (c, d, h) = parts s.hi in
      le_parts (sub_parts h (pos_parts k)) (sub_parts h (pos_parts j)) ∙ le-leb (c + 0 + (d + j)) (c + 0 + (d + k)) (omega arith)

  pub up_within : le_z s.lo s.hi ≡ true → (i : ℕ) → i < size_of s → within s (s.lo +ℤ pos i) ≡ true
  up_within rises i l =
      let (a, b, g) = parts s.lo in
      let (c, d, h) = parts s.hi in
      let up = leb-true (a + d) (c + b) (sym (le_parts g h) ∙ rises) in
      let here = add_parts g (pos_parts i) in
      ap₂ ◌&&◌ (le_parts g here ∙ le-leb (a + (b + 0)) (a + i + b) (omega arith))
      (le_parts here h ∙ le-leb (a + i + d) (c + (b + 0)) (omega (arith, up, abs_parts (sub_parts h g))))

  pub down_within : le_z s.lo s.hi ≡ true → (i : ℕ) → i < size_of s → within s (down i) ≡ true
  down_within rises i l =
      let (a, b, g) = parts s.lo in
      let (c, d, h) = parts s.hi in
      let up = leb-true (a + d) (c + b) (sym (le_parts g h) ∙ rises) in
      let here = sub_parts h (pos_parts i) in
      ap₂ ◌&&◌ (le_parts g here ∙ le-leb (a + (d + i)) (c + 0 + b) (omega (arith, up, abs_parts (sub_parts h g))))
      (le_parts here h ∙ le-leb (c + 0 + d) (c + (d + i)) (omega arith))

  -- a number of the span is as many steps down as it is short of hi
  pub steps_down : (z : ℤ) → within s z ≡ true → (j : ℕ) × (j < size_of s) × (down j ≡ z)
  steps_down z w =
      let (a, b, g) = parts s.lo in
      let (c, d, h) = parts s.hi in
      let (e, f, p) = parts z in
      let low = leb-true (a + f) (e + b) (sym (le_parts g p) ∙ and_left (le_z s.lo z) (le_z z s.hi) w) in
      let high = leb-true (e + d) (c + f) (sym (le_parts p h) ∙ and_right (le_z s.lo z) (le_z z s.hi) w) in
      let j = nat_abs (s.hi -ℤ z) in
      let short = abs_parts (sub_parts h p) in
      (j, omega (arith, low, high, short, abs_parts (sub_parts h g)), same_parts (sub_parts h (pos_parts j)) p (omega (arith, high, short)))
