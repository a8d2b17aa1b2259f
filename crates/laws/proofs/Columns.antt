-- Columns in a row are in range when the first and the last are; and what a frame that is not refused has. Assumes nothing.
use Prim.Native.Nat.{ℕ, ◌-◌, ◌≤◌, ◌<◌}
use native.Mathlib.Omega.{arith}
use mathlib.Core.Bool.{Bool, true, ◌&&◌, ◌||◌}
use mathlib.Core.List.{List, [], ◌∷◌}
use mathlib.Core.Option.{none}
use mathlib.Core.Path.{◌≡◌, sym, ap, ◌∙◌}
use borrow.Author.Tests.{ltb-false, eqb-false, le-leb}
use lib.Dec.{eqb, ltb}
use lib.IntN.{ℤ, pos, negsuc, ◌+ℤ◌, +ℤ_idr}
use lib.ListN.{length}
use lib.Signed.{mag, le_z}
use Rattle.ground.specs.Lists.{below, all_of}
use Rattle.ground.proofs.Branches.{and_left, and_right, bool_both}
use Rattle.ground.proofs.Counting.{all_true, all_at_each, first_kept}
use Rattle.ground.proofs.Order.{le_z_trans, le_z_add}
use Rattle.rules.specs.declared.Rule.TheVariants as rule
use Rattle.rules.specs.declared.Place.{Place}
use Rattle.rules.specs.Ranges.{Span, within, columns, codes, frames}
use Rattle.rules.specs.Boxes.{holds, everywhere}
use Rattle.rules.specs.Frame.{most_samples, column, code_at, point_of, frame_refusal}
use Rattle.rules.specs.Refusals.{refuse_if, refuse_unless}
use Rattle.laws.proofs.Soundness.{unless_kept, if_kept, or_false}

module _ (s : Span) (first : ℤ) (n : ℕ) (some-column : 1 ≤ n) where
  abbrev ends : Bool
  ends = within s first && le_z (first +ℤ pos (n - 1)) s.hi

  ends_all : ends ≡ true → all_of (λ k. within s (first +ℤ pos k)) (below n) ≡ true
  ends_all h = all_true (λ k. within s (first +ℤ pos k)) n each
    where
      low : le_z s.lo first ≡ true
      low = and_left (le_z s.lo first) (le_z first s.hi) (and_left (within s first) (le_z (first +ℤ pos (n - 1)) s.hi) h)

      high : le_z (first +ℤ pos (n - 1)) s.hi ≡ true
      high = and_right (within s first) (le_z (first +ℤ pos (n - 1)) s.hi) h

      each : (k : ℕ) → k < n → within s (first +ℤ pos k) ≡ true
      each k l =
          let up : le_z first (first +ℤ pos k) ≡ true = rw (+ℤ_idr first) at (le_z_add first 0 k (omega arith)) in
          let a : le_z s.lo (first +ℤ pos k) ≡ true = le_z_trans s.lo first (first +ℤ pos k) low up in
          let b : le_z (first +ℤ pos k) s.hi ≡ true = le_z_trans (first +ℤ pos k) (first +ℤ pos (n - 1)) s.hi (le_z_add first k (n - 1) (omega arith)) high in
          rw (a, b)

  all_ends : all_of (λ k. within s (first +ℤ pos k)) (below n) ≡ true → ends ≡ true
  all_ends h =
      let zeroth : within s (first +ℤ pos 0) ≡ true = all_at_each (λ k. within s (first +ℤ pos k)) n h 0 (omega arith) in
      let a : within s first ≡ true = ap (within s) (sym (+ℤ_idr first)) ∙ zeroth in
      let last : within s (first +ℤ pos (n - 1)) ≡ true = all_at_each (λ k. within s (first +ℤ pos k)) n h (n - 1) (omega arith) in
      let b : le_z (first +ℤ pos (n - 1)) s.hi ≡ true = and_right (le_z s.lo (first +ℤ pos (n - 1))) (le_z (first +ℤ pos (n - 1)) s.hi) last in
      rw (a, b)

  -- the code's test of the two ends is the rule of all
  pub ends_are_all : ends ≡ all_of (λ k. within s (first +ℤ pos k)) (below n)
  ends_are_all = bool_both ends (all_of (λ k. within s (first +ℤ pos k)) (below n)) ends_all all_ends

-- a code of 16 bits is in range
pub code_in : (v : ℤ) → mag v < 32768 → within codes v ≡ true
code_in (pos n) h = le-leb n 32767 (omega arith)
code_in (negsuc n) h = rw (le-leb n 32767 (omega arith))

-- a frame that is not refused
pub record FrameRight (samples : List ℤ) (place : Place) : Type 0 where
  pub some_sample : 1 ≤ length samples
  pub not_over : length samples ≤ most_samples
  pub first_in : within columns place.first ≡ true
  pub columns_in : (k : ℕ) → k < length samples → within columns (column place k) ≡ true
  pub frame_in : within frames place.frame ≡ true

module _ (samples : List ℤ) (place : Place) where
  abbrev column_rule : Bool
  column_rule = all_of (λ k. within columns (column place k)) (below (length samples))

  pub frame_right : frame_refusal samples place ≡ none → FrameRight samples place
  frame_right e =
      let n = length samples in
      let a = first_kept (refuse_if (eqb n 0 || ltb most_samples n) rule.Frame 0) (refuse_unless column_rule rule.Frame 1 ∷ refuse_unless (within frames place.frame) rule.Frame 2 ∷ []) e in
      let b = first_kept (refuse_unless column_rule rule.Frame 1) (refuse_unless (within frames place.frame) rule.Frame 2 ∷ []) a.1 in
      let c = first_kept (refuse_unless (within frames place.frame) rule.Frame 2) [] b.1 in
      let l = or_false (eqb n 0) (ltb most_samples n) (if_kept (eqb n 0 || ltb most_samples n) rule.Frame 0 a.0) in
      let some : n ≡ 0 → ⊥ = eqb-false n 0 l.0 in
      let few : n ≤ most_samples = ltb-false most_samples n l.1 in
      let each = all_at_each (λ k. within columns (column place k)) n (unless_kept column_rule rule.Frame 1 b.0) in
      record {
        some_sample = omega arith;
        not_over = few;
        first_in = ap (within columns) (sym (+ℤ_idr place.first)) ∙ each 0 (omega arith);
        columns_in = each;
        frame_in = unless_kept (within frames place.frame) rule.Frame 2 c.0;
      }

-- the point of a sample of 16 bits is in range
pub point_in : {samples : List ℤ} {place : Place} → FrameRight samples place → (k : ℕ) → k < length samples → mag (code_at samples k) < 32768
    → holds everywhere (point_of place k (code_at samples k)) ≡ true
point_in {samples} {place} f k l h = rw (f.columns_in k l, code_in (code_at samples k) h, f.frame_in)
