-- The text of a table as it grows: the fields of a row word by word, and the lines row by row.
use Rattle.std.specs.Prelude.{ℕ, suc, ℤ}
use mathlib.Core.List.{List, [], ◌∷◌, ◌++◌, map, flat_map}
use Rattle.ground.specs.Lists.{below}
use Rattle.rules.specs.declared.Kind.{Kind}
use Rattle.rules.specs.Kinds.{named_words}
use Rattle.rules.specs.Table.{word_at, kind_at}
use Rattle.rules.specs.Text.{line_feed, kind_name, TextRow, field_text, line_of, text_row_by}

-- the fields of the first n words that a row names
unfoldable pub fields_to : List ℤ → ℕ → ℕ → List ℕ
fields_to t row n = flat_map field_text (map (λ i. word_at t row (suc i)) (below n))

-- the line of a row that is read as of a kind
abbrev pub line_as : List ℤ → ℕ → Kind → List ℕ
line_as t row k = kind_name k ++ (fields_to t row (named_words k) ++ (line_feed ∷ []))

-- what text has of a row, and its line: of a row of unknown kind, nothing
abbrev pub row_text : List ℤ → ℕ → List TextRow
row_text t row = text_row_by (kind_at t row) (word_at t row)

unfoldable pub line_at : List ℤ → ℕ → List ℕ
line_at t row = flat_map line_of (row_text t row)

-- the lines of the first n rows
unfoldable pub lines_to : List ℤ → ℕ → List ℕ
lines_to t n = flat_map line_of (flat_map (row_text t) (below n))
