-- Section 3 of docs/RULES.md: the check of a table. First its length (1); then row by row the kind (2), the fields and spare words (3) and
-- the children (4); then that every row but the last is a child exactly once (5).
use Rattle.std.specs.Prelude.{ℕ, ◌-◌, ◌*◌, ◌%◌, Bool, not, ◌&&◌, ◌||◌, eqb, ltb, ℤ, length}
use mathlib.Core.List.{List, [], ◌∷◌, flat_map}
use Rattle.std.proofs.Math.Option.{Option, none, some}
use Rattle.ground.specs.Lists.{below, count_if, first_of, rulings}
use Rattle.rules.specs.declared.Kind.{Kind}
use Rattle.rules.specs.declared.Refusal.{Refusal}
use Rattle.rules.specs.declared.Row.{Row}
use Rattle.rules.specs.declared.Row.TheVariants.{Solid, Union, Inter, Diff}
use Rattle.rules.specs.declared.Rule.TheVariants as rule
use Rattle.rules.specs.Table.{row_words, most_rows, row_count, word_at, kind_at, row_at}
use Rattle.rules.specs.Fields.{fields_right, spare_right, children_right}
use Rattle.rules.specs.Refusals.{refuse, refuse_if, refuse_unless}

abbrev pub length_refusal : List ℤ → Option Refusal
length_refusal t = refuse_if (not (eqb (length t % row_words) 0) || (eqb (length t) 0 || ltb (most_rows * row_words) (length t))) rule.Length (length t)

abbrev pub row_refusal_by : Option Kind → (ℕ → ℤ) → ℕ → Option Refusal
row_refusal_by none w row = refuse rule.Kind row
row_refusal_by (some k) w row = first_of (refuse_unless (fields_right k w && spare_right k w) rule.Fields row ∷ refuse_unless (children_right k w row) rule.Children row ∷ [])

abbrev pub row_refusal : List ℤ → ℕ → Option Refusal
row_refusal t row = row_refusal_by (kind_at t row) (word_at t row) row

abbrev pub rows_refusal : List ℤ → Option Refusal
rows_refusal t = rulings (row_refusal t) 0 (row_count t)

-- the children that the rows of a table name, one for each word that names one
abbrev pub children_of : Option Row → List ℕ
children_of none = []
children_of (some (Solid s)) = []
children_of (some (Union left right)) = left ∷ right ∷ []
children_of (some (Inter left right)) = left ∷ right ∷ []
children_of (some (Diff left right)) = left ∷ right ∷ []

abbrev pub children : List ℤ → List ℕ
children t = flat_map (λ row. children_of (row_at t row)) (below (row_count t))

abbrev pub child_once : List ℤ → ℕ → Bool
child_once t row = eqb (count_if (eqb row) (children t)) 1

abbrev pub child_refusal : List ℤ → Option Refusal
child_refusal t = rulings (λ row. refuse_unless (child_once t row) rule.Once row) 0 (row_count t - 1)

unfoldable pub table_refusal : List ℤ → Option Refusal
table_refusal t = first_of (length_refusal t ∷ rows_refusal t ∷ child_refusal t ∷ [])
