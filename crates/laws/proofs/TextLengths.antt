-- How long a text can be: a number has at most 11 bytes and a line at most 126, so the text of 127 rows is not too long. Assumes nothing.
use Prim.Native.Nat.{suc, ◌≤◌}
use native.Mathlib.Omega.{arith}
use mathlib.Core.List.{List}
use mathlib.Core.Path.{◌≡◌}
use lib.IntN.{ℤ, pos, negsuc}
use lib.ListN.{length, length-append}
use Rattle.ground.specs.Lists.{All}
use Rattle.ground.proofs.Lists.{all_map}
use Rattle.ground.proofs.Pieces.{all_each, pieces_most}
use Rattle.rules.specs.declared.Kind.{Kind}
use Rattle.rules.specs.declared.Kind.TheVariants.{Box, Wedge, Drum, Union, Inter, Diff, Triangle}
use Rattle.rules.specs.Kinds.{named_words}
use Rattle.rules.specs.Table.{most_rows}
use Rattle.rules.specs.Text.{kind_name, TextRow, field_text, line_of, text_of}
use Rattle.rules.specs.TextForm.{most_bytes}
use Rattle.rules.proofs.Numbers.{few_digits}

-- a tab, and at most a minus and ten digits
field_most : (v : ℤ) → length (field_text v) ≤ 12
field_most (pos n) = omega (arith, few_digits 10 n)
field_most (negsuc n) = omega (arith, few_digits 10 (suc n))

name_most : (k : Kind) → length (kind_name k) ≤ 5
name_most Box = omega arith
name_most Wedge = omega arith
name_most Drum = omega arith
name_most Union = omega arith
name_most Inter = omega arith
name_most Diff = omega arith
name_most Triangle = omega arith

pub few_named : (k : Kind) → named_words k ≤ 10
few_named Box = omega arith
few_named Wedge = omega arith
few_named Drum = omega arith
few_named Union = omega arith
few_named Inter = omega arith
few_named Diff = omega arith
few_named Triangle = omega arith

-- a row has the words that its kind names
abbrev pub Named : TextRow → Type 0
Named row = length row.words ≡ named_words row.kind

line_most : (row : TextRow) → Named row → length (line_of row) ≤ 126
line_most row named =
    let fields = pieces_most field_text 12 row.words (all_each (λ v. length (field_text v) ≤ 12) field_most row.words) in
    simp length-append (omega (arith, fields, name_most row.kind, few_named row.kind))

pub text_most : (rows : List TextRow) → All Named rows → length rows ≤ most_rows → length (text_of rows) ≤ most_bytes
text_most rows named few =
    let lines = pieces_most line_of 126 rows (all_map Named (λ row. length (line_of row) ≤ 126) line_most rows named) in
    simp length-append (omega (arith, lines, few_digits 10 (length rows)))
