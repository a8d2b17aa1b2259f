-- Section 11 of docs/RULES.md: zone text, from its rows. Bytes are numbers below 256.
use Rattle.std.specs.Prelude.{ℕ, zero, suc, ◌+◌, ◌-◌, ◌/◌, ◌%◌, ltb, ℤ, pos, negsuc, length, replicate, if◌then◌else◌}
use mathlib.Core.List.{List, [], ◌∷◌, ◌++◌, map, flat_map}
use Rattle.std.proofs.Math.Option.{Option, none, some}
use Rattle.ground.specs.Lists.{below}
use Rattle.rules.specs.declared.Kind.{Kind}
use Rattle.rules.specs.declared.Kind.TheVariants.{Box, Wedge, Drum, Union, Inter, Diff, Triangle}
use Rattle.rules.specs.Kinds.{kind_number, named_words}
use Rattle.rules.specs.Table.{row_words, row_count, word_at, kind_at}

abbrev pub tab : ℕ
tab = 9

abbrev pub line_feed : ℕ
line_feed = 10

abbrev pub minus : ℕ
minus = 45

abbrev pub digit : ℕ → ℕ
digit d = 48 + d

-- n in decimal with no leading zeros, in at most so many digits
unfoldable pub decimal_in : ℕ → ℕ → List ℕ
decimal_in zero n = []
decimal_in (suc most) n = if ltb n 10 then digit n ∷ [] else decimal_in most (n / 10) ++ (digit (n % 10) ∷ [])

-- ten digits write every magnitude of 32 bits
abbrev pub decimal : ℕ → List ℕ
decimal n = decimal_in 10 n

-- a minus only before a negative
abbrev pub number_text : ℤ → List ℕ
number_text (pos n) = decimal n
number_text (negsuc n) = minus ∷ decimal (suc n)

-- zone
abbrev pub zone_name : List ℕ
zone_name = 122 ∷ 111 ∷ 110 ∷ 101 ∷ []

-- box, wedge, drum, union, inter, diff, tri
abbrev pub kind_name : Kind → List ℕ
kind_name Box = 98 ∷ 111 ∷ 120 ∷ []
kind_name Wedge = 119 ∷ 101 ∷ 100 ∷ 103 ∷ 101 ∷ []
kind_name Drum = 100 ∷ 114 ∷ 117 ∷ 109 ∷ []
kind_name Union = 117 ∷ 110 ∷ 105 ∷ 111 ∷ 110 ∷ []
kind_name Inter = 105 ∷ 110 ∷ 116 ∷ 101 ∷ 114 ∷ []
kind_name Diff = 100 ∷ 105 ∷ 102 ∷ 102 ∷ []
kind_name Triangle = 116 ∷ 114 ∷ 105 ∷ []

-- a row as text has it: its kind, and the words that the kind names
pub record TextRow : Type 0 where
  pub kind : Kind
  pub words : List ℤ

abbrev pub header_line : ℕ → List ℕ
header_line rows = zone_name ++ (tab ∷ (decimal rows ++ (line_feed ∷ [])))

abbrev pub field_text : ℤ → List ℕ
field_text v = tab ∷ number_text v

abbrev pub line_of : TextRow → List ℕ
line_of row = kind_name row.kind ++ (flat_map field_text row.words ++ (line_feed ∷ []))

abbrev pub text_of : List TextRow → List ℕ
text_of rows = header_line (length rows) ++ flat_map line_of rows

-- the rows of a table, for its text: a row of unknown kind has none
abbrev pub text_row_by : Option Kind → (ℕ → ℤ) → List TextRow
text_row_by none w = []
text_row_by (some k) w = record { kind = k; words = map (λ i. w (suc i)) (below (named_words k)) } ∷ []

abbrev pub text_rows : List ℤ → List TextRow
text_rows t = flat_map (λ row. text_row_by (kind_at t row) (word_at t row)) (below (row_count t))

-- the words of a table, from its text's rows: spare words are 0
abbrev pub table_row : TextRow → List ℤ
table_row row = pos (kind_number row.kind) ∷ (row.words ++ replicate (row_words - (1 + named_words row.kind)) (pos 0))

abbrev pub table_of : List TextRow → List ℤ
table_of rows = flat_map table_row rows
