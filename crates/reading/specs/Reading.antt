-- A text that was read up to a position, or to its end; and the table that it gives.
use Rattle.std.specs.Prelude.{ℕ, ◌-◌, ◌*◌, ◌≡◌, ℤ, pos, length, take, replicate, Result, MatchResult}
use mathlib.Core.List.{List, [], ◌∷◌, ◌++◌, flat_map}
use Rattle.std.proofs.Math.Option.{Option}
use Rattle.ground.specs.Lists.{All, first_of}
use Rattle.rules.specs.declared.Refusal.{Refusal}
use Rattle.rules.specs.Table.{row_words, most_rows}
use Rattle.rules.specs.Text.{TextRow, header_line, line_of, text_of, table_of}
use Rattle.rules.specs.TextForm.{lines_of, RightRow, FirstFault}
use Rattle.rules.specs.Verdict.{table_refusal}
use Rattle.rules.specs.Refusals.{room_refusal}
use Rattle.rules.specs.Told.{Written, wrote, tell, told_written}
use Rattle.rules.specs.Outcome.{leave}
use Rattle.piece.specs.Pieces.{Stood, RightCount}
use Rattle.reading.specs.declared.FaultyLine.{FaultyLine}

-- a header for n rows and some of these rows stand up to a position; the words are those of the rows, and then zeros
pub record Begun (text : List ℕ) (n at done : ℕ) (words : List ℤ) : Type 0 where
  pub rows : List TextRow
  pub counted : length rows ≡ done
  pub right : All RightRow rows
  pub stood : Stood text 0 (header_line n ++ flat_map line_of rows) at
  pub table : words ≡ table_of rows ++ replicate ((most_rows - length rows) * row_words) (pos 0)

-- the text is that of n rows, and the words begin with their table
pub record SpeltOut (text : List ℕ) (words : List ℤ) (n : ℕ) : Type 0 where
  pub rows : List TextRow
  pub counted : length rows ≡ n
  pub count : RightCount n
  pub right : All RightRow rows
  pub is : text ≡ text_of rows
  pub table : take (n * row_words) words ≡ table_of rows

-- or it breaks its form, and that is its first faulty line
abbrev pub FormRead : List ℕ → List ℤ → Result ℕ FaultyLine → Type 0
FormRead text words r = MatchResult r (SpeltOut text words) (λ fault. FirstFault (lines_of text) fault.0)

-- ---- words that were read go into a lent table: its refusals, then 8

abbrev pub give_refusal : List ℤ → ℕ → Option Refusal
give_refusal words room = first_of (table_refusal words ∷ room_refusal (length words) room ∷ [])

pub record Given (words before after : List ℤ) (r : Written) : Type 0 where
  pub answer : told_written r ≡ tell (give_refusal words (length before)) (wrote (length words))
  pub buffer : after ≡ leave (give_refusal words (length before)) words before
