-- Section 11 of docs/RULES.md: which texts are right, and the first faulty line of one that is not (13).
use Rattle.std.specs.Prelude.{ℕ, suc, ◌+◌, ◌≤◌, ◌<◌, ◌≡◌, List, [], ◌∷◌, eqb, ℤ, length, get_or, if◌then◌else◌}
use Rattle.std.specs.Int.Signed.{mag}
use Rattle.ground.specs.Lists.{All}
use Rattle.rules.specs.Kinds.{named_words}
use Rattle.rules.specs.Table.{most_rows}
use Rattle.rules.specs.Text.{TextRow, line_feed, header_line, line_of, text_of}

abbrev pub most_bytes : ℕ
most_bytes = 16384

-- a text's lines, each with its line feed; what follows the last line feed is a line without one
abbrev pub prepended : ℕ → List (List ℕ) → List (List ℕ)
prepended byte [] = (byte ∷ []) ∷ []
prepended byte (line ∷ lines) = (byte ∷ line) ∷ lines

unfoldable pub lines_of : List ℕ → List (List ℕ)
lines_of [] = []
lines_of (byte ∷ bytes) = if eqb byte line_feed then (byte ∷ []) ∷ lines_of bytes else prepended byte (lines_of bytes)

-- a value of 32 bits (`mag` is n both of n and of -(n + 1))
pub record Word32 (v : ℤ) : Type 0 where
  pub fits : mag v < 2147483648

pub record RightRow (row : TextRow) : Type 0 where
  pub named : length row.words ≡ named_words row.kind
  pub fit : All Word32 row.words

-- a first line is right when it is that of some row count
pub record RightHeader (line : List ℕ) (rows : ℕ) : Type 0 where
  pub some_row : 1 ≤ rows
  pub not_over : rows ≤ most_rows
  pub is : line ≡ header_line rows

-- any other line is right when it is the text of a row
pub record RightLine (line : List ℕ) : Type 0 where
  pub row : TextRow
  pub right : RightRow row
  pub is : line ≡ line_of row

-- the line that stands after k others; the empty one where it is missing
abbrev pub line_after : List (List ℕ) → ℕ → List ℕ
line_after lines k = get_or lines k []

-- the lines of the first k rows are right
abbrev pub RightRows : List (List ℕ) → ℕ → Type 0
RightRows lines k = (j : ℕ) → j < k → RightLine (line_after lines (suc j))

-- The form wants a header, then as many rows as it names, then nothing. Lines are numbered from 1; the first one that is not so is line `number`.
pub data FirstFault (lines : List (List ℕ)) (number : ℕ) : Type 0 where
  -- line 1 is no header
  no_header : number ≡ 1 → ((rows : ℕ) → RightHeader (line_after lines 0) rows → ⊥) → FirstFault lines number
  -- k rows are right, and one more should follow, but the next line is no row, or is missing
  no_such_row : (rows k : ℕ) → number ≡ k + 2 → RightHeader (line_after lines 0) rows → RightRows lines k → k < rows
      → (RightLine (line_after lines (suc k)) → ⊥) → FirstFault lines number
  -- all rows are right, and a line follows them
  no_end : (rows : ℕ) → number ≡ rows + 2 → RightHeader (line_after lines 0) rows → RightRows lines rows → suc rows < length lines
      → FirstFault lines number

-- how a text stands: too long, faulty from a line on, or the text of rows that it then spells
pub data TextForm (text : List ℕ) : Type 0 where
  too_long : most_bytes < length text → TextForm text
  faulty : (line : ℕ) → length text ≤ most_bytes → FirstFault (lines_of text) line → TextForm text
  spelt : (rows : List TextRow) → length text ≤ most_bytes → 1 ≤ length rows → length rows ≤ most_rows → All RightRow rows → text ≡ text_of rows → TextForm text
