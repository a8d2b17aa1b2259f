-- A window that is not refused: its bounds are in range, and it is not empty. Assumes nothing.
use Prim.Native.Nat.{ℕ, ◌+◌}
use mathlib.Core.Bool.{true, false, ◌&&◌, ◌||◌}
use mathlib.Core.List.{List, [], ◌∷◌, ◌++◌}
use mathlib.Core.Option.{Option, none}
use mathlib.Core.Path.{◌≡◌, ap₂, ◌∙◌}
use borrow.Author.Tests.{not-true}
use lib.IntN.{ℤ}
use lib.Signed.{le_z, lt_z}
use Rattle.ground.specs.Lists.{first_of}
use Rattle.ground.proofs.Branches.{and_left, and_right}
use Rattle.ground.proofs.Counting.{first_kept}
use Rattle.rules.specs.declared.Rule.TheVariants as rule
use Rattle.rules.specs.declared.Axis.{Axis}
use Rattle.rules.specs.declared.Axis.TheVariants.{Column, Code, Frame}
use Rattle.rules.specs.declared.Refusal.{Refusal}
use Rattle.rules.specs.declared.Window.{Window}
use Rattle.rules.specs.Ranges.{Span, within, range, columns, codes, frames}
use Rattle.rules.specs.Boxes.{window_box, empty}
use Rattle.rules.specs.Refusals.{refuse_unless}
use Rattle.rules.specs.ListCalls.{edges_refusals, window_refusal}
use Rattle.laws.proofs.Soundness.{unless_kept}
use Rattle.laws.proofs.Spaces.{not_less}

-- the two bounds of an axis
pub record Bounds (s : Span) (lo hi : ℤ) : Type 0 where
  pub lo_in : within s lo ≡ true
  pub hi_in : within s hi ≡ true
  pub rising : le_z lo hi ≡ true

pub record RightWindow (w : Window) : Type 0 where
  pub x : Bounds columns w.xlo w.xhi
  pub y : Bounds codes w.ylo w.yhi
  pub z : Bounds frames w.zlo w.zhi

axis_right : (axis : Axis) (lo hi : ℤ) (i : ℕ) (others : List (Option Refusal)) → first_of (edges_refusals axis lo hi i ++ others) ≡ none
    → Bounds (range axis) lo hi × (first_of others ≡ none)
axis_right axis lo hi i others e =
    let s = range axis in
    let bounds = first_kept (refuse_unless (within s lo) rule.Bound i) (refuse_unless (within s hi && le_z lo hi) rule.Bound (i + 1) ∷ others) e in
    let upper = first_kept (refuse_unless (within s hi && le_z lo hi) rule.Bound (i + 1)) others bounds.1 in
    let both = unless_kept (within s hi && le_z lo hi) rule.Bound (i + 1) upper.0 in (
      record {
        lo_in = unless_kept (within s lo) rule.Bound i bounds.0;
        hi_in = and_left (within s hi) (le_z lo hi) both;
        rising = and_right (within s hi) (le_z lo hi) both;
      },
      upper.1,
    )

pub window_right : (w : Window) → window_refusal w ≡ none → RightWindow w
window_right w e =
    let x = axis_right Column w.xlo w.xhi 0 _ e in
    let y = axis_right Code w.ylo w.yhi 2 _ x.1 in
    let z = axis_right Frame w.zlo w.zhi 4 [] y.1 in
    record { x = x.0; y = y.0; z = z.0 }

not_past : (a b : ℤ) → le_z a b ≡ true → lt_z b a ≡ false
not_past a b h = not-true (lt_z b a) (not_less b a ∙ h)

pub window_filled : (w : Window) → window_refusal w ≡ none → empty (window_box w) ≡ false
window_filled w e =
    let r = window_right w e in
    ap₂ ◌||◌ (not_past w.xlo w.xhi r.x.rising) (ap₂ ◌||◌ (not_past w.ylo w.yhi r.y.rising) (not_past w.zlo w.zhi r.z.rising))
