-- A rectangle that is not refused: its sides are right, and each of its columns and codes is one of the window's. Assumes nothing.
use Prim.Native.Nat.{ℕ, ◌+◌, ◌<◌}
use mathlib.Core.Bool.{true, ◌&&◌}
use mathlib.Core.List.{[]}
use mathlib.Core.Option.{none}
use mathlib.Core.Path.{◌≡◌, ap₂}
use lib.IntN.{ℤ, pos, ◌+ℤ◌, ◌-ℤ◌}
use lib.Signed.{le_z, lt_z}
use Rattle.ground.specs.Lists.{first_of}
use Rattle.ground.proofs.Branches.{and_left, and_right}
use Rattle.ground.proofs.Counting.{first_kept, none_append}
use Rattle.ground.proofs.Order.{le_z_trans}
use Rattle.rules.specs.declared.Rule.TheVariants as rule
use Rattle.rules.specs.declared.Rectangle.{Rectangle}
use Rattle.rules.specs.Boxes.{Box}
use Rattle.rules.specs.Ranges.{Span, within, size_of}
use Rattle.rules.specs.Refusals.{refuse_unless}
use Rattle.rules.specs.Waterfall.{most_side, columns_of, codes_of, side_refusals, rectangle_refusal}
use Rattle.laws.specs.Drawing.{SideRight, Drawable}
use Rattle.laws.proofs.Ranges.{second, third}
use Rattle.laws.proofs.Soundness.{unless_kept}
use Rattle.laws.proofs.SpanNumbers.{up_within, down_within}

side_right : (window side : Span) (i : ℕ) → first_of (side_refusals window side i) ≡ none → SideRight window side
side_right window side i e =
    let low = within window side.lo in
    let high = within window side.hi in
    let up = le_z side.lo side.hi in
    let few = lt_z (side.hi -ℤ side.lo) (pos most_side) in
    let one = first_kept (refuse_unless low rule.Bound i) _ e in
    let two = unless_kept (high && (up && few)) rule.Bound (i + 1) (first_kept (refuse_unless (high && (up && few)) rule.Bound (i + 1)) [] one.1).0 in
    record { lo_in = unless_kept low rule.Bound i one.0; hi_in = and_left high (up && few) two; sized = record { rises = second high up few two; short = third high up few two } }

pub drawable : (window : Box) (q : Rectangle) → rectangle_refusal window q ≡ none → Drawable window q
drawable window q e =
    let sides = none_append (side_refusals window.x (columns_of q) 0) (side_refusals window.y (codes_of q) 2) e in
    record { columns_right = side_right window.x (columns_of q) 0 sides.0; codes_right = side_right window.y (codes_of q) 2 sides.1 }

module _ {window side : Span} (S : SideRight window side) where
  side_in : (v : ℤ) → within side v ≡ true → within window v ≡ true
  side_in v h =
      ap₂ ◌&&◌
      (le_z_trans window.lo side.lo v (and_left (le_z window.lo side.lo) (le_z side.lo window.hi) S.lo_in) (and_left (le_z side.lo v) (le_z v side.hi) h))
      (le_z_trans v side.hi window.hi (and_right (le_z side.lo v) (le_z v side.hi) h) (and_right (le_z window.lo side.hi) (le_z side.hi window.hi) S.hi_in))

  pub up_in : (i : ℕ) → i < size_of side → within window (side.lo +ℤ pos i) ≡ true
  up_in i l = side_in (side.lo +ℤ pos i) (up_within side S.sized.rises i l)

  pub down_in : (j : ℕ) → j < size_of side → within window (side.hi -ℤ pos j) ≡ true
  down_in j l = side_in (side.hi -ℤ pos j) (down_within side S.sized.rises j l)
