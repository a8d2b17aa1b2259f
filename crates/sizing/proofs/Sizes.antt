-- How many rows the plan of each row of a table takes: as many on either side, and at most 127. Assumes nothing.
use Prim.Native.Nat.{ℕ, ◌+◌, ◌*◌, ◌≤◌, ◌<◌}
use native.Mathlib.Nat.{eq-or-lt_of_le}
use native.Mathlib.Omega.{arith}
use mathlib.Core.Bool.{Bool, true, false}
use mathlib.Core.List.{List}
use mathlib.Core.Logic.{◌⊎◌, inl, inr, ⊎_elim}
use mathlib.Core.Path.{◌≡◌, refl, sym, ap, ◌∙◌}
use lib.Count.{ones-le}
use lib.IntN.{ℤ}
use lib.ListN.{length, get_or, set, length-set}
use lib.Seq.{get_or-set_same, get_or-set_other}
use Rattle.std.specs.Prelude.{if◌then◌else◌}
use Rattle.rules.specs.Table.{row_count, primitives}
use Rattle.rules.specs.Tree.{Tree, solid, union, inter, diff, tree_at}
use Rattle.rules.specs.Choices.{in_of, out_of}
use Rattle.laws.specs.Plans.{Plan, with_it, without, either, both, plan, mask}
use Rattle.laws.specs.Sound.{Sound}
use Rattle.laws.proofs.Apart.{table_apart, mask_in_table, few_primitives}
use Rattle.laws.proofs.Expansion.{leaves, leaves_ones}
use Rattle.choice.specs.declared.Step.{Step}
use Rattle.choice.specs.declared.Step.TheVariants.{With, Without, Either, Both}
use Rattle.choice.specs.Steps.{side_of, plan_at, IsStep}
use Rattle.choice.proofs.Steps.{as_step}
use Rattle.rows.specs.Lines.{rows_of}
use Rattle.sizing.specs.Sizes.{SizedTo}

either_side : (tree : Tree) → rows_of (plan out_of tree) ≡ rows_of (plan in_of tree)
unfolding plan rows_of
either_side (solid i s) = refl
either_side (union left right) = omega (arith, either_side left, either_side right)
either_side (inter left right) = omega (arith, either_side left, either_side right)
either_side (diff left right) = omega (arith, either_side left, either_side right)

same_size : (t : List ℤ) (row : ℕ) (within : Bool) → rows_of (plan_at t row within) ≡ rows_of (plan_at t row true)
unfolding plan_at
same_size t row true = refl
same_size t row false = either_side (tree_at t row)

-- one row more
pub sized_more : {t : List ℤ} {sizes : List ℕ} {row n : ℕ} → row < 127 → SizedTo t sizes row → n ≡ rows_of (plan_at t row true) → SizedTo t (set sizes row n) (row + 1)
sized_more {t} {sizes} {row} {n} l s e = record {
  long = length-set sizes row n ∙ s.long;
  each = λ q h within. ⊎_elim
      (λ z. ap (λ (j : ℕ). get_or (set sizes row n) j 0) z ∙ get_or-set_same sizes row n 0 (omega (arith, s.long)) ∙ e ∙ ap (λ (j : ℕ). rows_of (plan_at t j true)) (sym z) ∙ sym (same_size t q within))
      (λ b. get_or-set_other sizes row q n 0 (λ z. omega arith) ∙ s.each q b within)
      (eq-or-lt_of_le (omega arith));
}

-- a leaf takes one row, and two parts take one more than they do by themselves
pub rows_leaf : (chosen : Bool) (i : ℕ) {p : Plan} → p ≡ if◌then◌else◌ chosen (with_it i) (without i) → 1 ≡ rows_of p
unfolding rows_of
rows_leaf true i e = sym (ap rows_of e)
rows_leaf false i e = sym (ap rows_of e)

pub rows_pair : (one : Bool) (a b : Plan) {p : Plan} {x y : ℕ} → p ≡ if◌then◌else◌ one (either a b) (both a b) → x ≡ rows_of a → y ≡ rows_of b → x + y + 1 ≡ rows_of p
unfolding rows_of
rows_pair true a b e h k = (λ i. h i + k i + 1) ∙ sym (ap rows_of e)
rows_pair false a b e h k = (λ i. h i + k i + 1) ∙ sym (ap rows_of e)

rows_leaves : (p : Plan) → rows_of p + 1 ≡ 2 * leaves p
unfolding rows_of leaves
rows_leaves (with_it i) = refl
rows_leaves (without i) = refl
rows_leaves (either a b) = omega (arith, rows_leaves a, rows_leaves b)
rows_leaves (both a b) = omega (arith, rows_leaves a, rows_leaves b)

module _ (t : List ℤ) (S : Sound t) (row : ℕ) (l : row < row_count t) (within : Bool) where
  pub few_rows : rows_of (plan_at t row within) ≤ 127
  unfolding plan_at
  few_rows =
      let p = plan (side_of within) (tree_at t row) in
      omega (arith, rows_leaves p, leaves_ones p (table_apart t S row l (side_of within)), ones-le (length (primitives t)) (mask p) (mask_in_table t S row l (side_of within)), few_primitives t S)

-- by the step that was read for a row
module _ (t : List ℤ) (row : ℕ) (p : Plan) {step : Step} (h : IsStep t row p step) where
  pub step_leaf : ((i : ℕ) × (step ≡ With i)) ⊎ ((i : ℕ) × (step ≡ Without i)) → 1 ≡ rows_of p
  step_leaf (inl w) = rows_leaf true _ (as_step t row p h w.1).1
  step_leaf (inr w) = rows_leaf false _ (as_step t row p h w.1).1

  pub step_parts : {sizes : List ℕ} {a b : ℕ} → SizedTo t sizes row → ((sa : Bool) × (sb : Bool) × (step ≡ Either a sa b sb)) ⊎ ((sa : Bool) × (sb : Bool) × (step ≡ Both a sa b sb))
      → get_or sizes a 0 + get_or sizes b 0 + 1 ≡ rows_of p
  step_parts s (inl w) = let N = as_step t row p h w.2 in rows_pair true _ _ N.0 (s.each _ N.1 w.0) (s.each _ N.2 w.1)
  step_parts s (inr w) = let N = as_step t row p h w.2 in rows_pair false _ _ N.0 (s.each _ N.1 w.0) (s.each _ N.2 w.1)
