-- What the check of a row comes to, from its parts. Assumes nothing.
use Prim.Native.Nat.{ℕ, ◌-◌, ◌*◌, ◌%◌, ◌≤◌}
use native.Mathlib.Omega.{arith}
use mathlib.Core.Bool.{Bool, true, false, not, ◌&&◌, ◌||◌}
use mathlib.Core.List.{List}
use mathlib.Core.Option.{Option, none, some}
use mathlib.Core.Path.{◌≡◌, sym, ap, ◌∙◌}
use lib.IntN.{ℤ}
use lib.Dec.{eqb, ltb}
use lib.ListN.{length}
use Rattle.ground.specs.Lists.{or_else, first_of, rulings}
use Rattle.ground.proofs.Counting.{or_else_none, rulings_same, rulings_none}
use Rattle.rules.specs.declared.Kind.{Kind}
use Rattle.rules.specs.declared.Refusal.{Refusal}
use Rattle.rules.specs.declared.Rule.TheVariants as rule
use Rattle.rules.specs.Fields.{fields_right, spare_right, children_right}
use Rattle.rules.specs.Refusals.{refuse, refuse_if, refuse_unless}
use Rattle.rules.specs.Table.{row_words, most_rows, row_count}
use Rattle.rules.specs.Verdict.{length_refusal, row_refusal_by, row_refusal, rows_refusal, child_once, child_refusal, table_refusal}
use Rattle.laws.proofs.Soundness.{sound_row, whole_table}
use Rattle.table.specs.Reading.{times_to, once_rule, SoundRows}
use Rattle.table.proofs.Tally.{times_at}

module _ (k : Kind) (w : ℕ → ℤ) (row : ℕ) where
  pub fields_wrong : (fields_right k w && spare_right k w) ≡ false → row_refusal_by (some k) w row ≡ refuse rule.Fields row
  unfolding first_of
  fields_wrong h = rw h

  pub children_wrong : (fields_right k w && spare_right k w) ≡ true → children_right k w row ≡ false → row_refusal_by (some k) w row ≡ refuse rule.Children row
  unfolding first_of
  children_wrong h g = rw (h, g)

  pub row_right : (fields_right k w && spare_right k w) ≡ true → children_right k w row ≡ true → row_refusal_by (some k) w row ≡ none
  unfolding first_of
  row_right h g = rw (h, g)

-- ---- the whole table

module _ (t : List ℤ) where
  -- the test of the length
  abbrev pub wrong_length : Bool
  wrong_length = not (eqb (length t % row_words) 0) || (eqb (length t) 0 || ltb (most_rows * row_words) (length t))

  pub length_wrong : wrong_length ≡ true → table_refusal t ≡ refuse rule.Length (length t)
  unfolding table_refusal first_of
  length_wrong h = ap (λ (b : Bool). or_else (refuse_if b rule.Length (length t)) (or_else (rows_refusal t) (or_else (child_refusal t) none))) h

  pub length_right : wrong_length ≡ false → length_refusal t ≡ none
  length_right h = ap (λ (b : Bool). refuse_if b rule.Length (length t)) h

  module _ (l : length_refusal t ≡ none) where
    rows_next : table_refusal t ≡ or_else (rows_refusal t) (child_refusal t)
    unfolding table_refusal first_of
    rows_next = ap (λ (x : Option Refusal). or_else x (or_else (rows_refusal t) (or_else (child_refusal t) none))) l ∙ ap (or_else (rows_refusal t)) (sym (or_else_none (child_refusal t)))

    pub rows_wrong : {r : Refusal} → rows_refusal t ≡ some r → table_refusal t ≡ some r
    rows_wrong h = rows_next ∙ ap (λ (x : Option Refusal). or_else x (child_refusal t)) h

    pub rows_right : rows_refusal t ≡ none → table_refusal t ≡ child_refusal t
    rows_right h = rows_next ∙ ap (λ (x : Option Refusal). or_else x (child_refusal t)) h

    pub sound_rows : rows_refusal t ≡ none → SoundRows t (row_count t)
    sound_rows h =
        let w = whole_table t l in
        record { whole = w.whole; some_row = w.some_row; not_over = w.not_over; each = λ row b. sound_row t row (rulings_none (row_refusal t) (row_count t) h row b) }

-- the tally gives each row's rule
pub once_rules : (t : List ℤ) → row_count t ≤ most_rows → rulings (once_rule (times_to t (row_count t))) 0 (row_count t - 1) ≡ child_refusal t
once_rules t h = rulings_same (once_rule (times_to t (row_count t))) (λ row. refuse_unless (child_once t row) rule.Once row) (row_count t - 1)
    (λ row b. ap (λ (n : ℕ). refuse_unless (eqb n 1) rule.Once row) (times_at t (row_count t) row (omega arith)))
