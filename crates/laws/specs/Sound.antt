-- What a sound table has, row by row, as those who use it need it.
use Rattle.std.specs.Prelude.{ℕ, ◌*◌, ◌-◌, ◌≤◌, ◌<◌, Bool, true, List, ◌≡◌, ℤ, length}
use Rattle.std.proofs.Math.Option.{some}
use Rattle.rules.specs.declared.Primitive.{Primitive}
use Rattle.rules.specs.declared.Primitive.TheVariants as primitive
use Rattle.rules.specs.declared.Row.{Row}
use Rattle.rules.specs.declared.Row.TheVariants.{Solid, Union, Inter, Diff}
use Rattle.rules.specs.Table.{row_words, most_rows, row_count, row_at}
use Rattle.rules.specs.Fields.{box_right, wedge_right, drum_right, triangle_right}
use Rattle.rules.specs.Verdict.{child_once}

-- a primitive keeps the rules of its fields
abbrev pub solid_right : Primitive → Bool
solid_right (primitive.Box b) = box_right b
solid_right (primitive.Wedge w) = wedge_right w
solid_right (primitive.Drum d) = drum_right d
solid_right (primitive.Triangle t) = triangle_right t

-- a row that was read keeps its rules: fields, or children that are earlier rows
abbrev pub RowRight : ℕ → Row → Type 0
RowRight row (Solid s) = solid_right s ≡ true
RowRight row (Union left right) = (left < row) × (right < row)
RowRight row (Inter left right) = (left < row) × (right < row)
RowRight row (Diff left right) = (left < row) × (right < row)

-- a row can be read, and keeps its rules
pub record SoundRow (t : List ℤ) (row : ℕ) : Type 0 where
  pub reads : Row
  pub is : row_at t row ≡ some reads
  pub right : RowRight row reads

pub record Sound (t : List ℤ) : Type 0 where
  pub whole : length t ≡ row_count t * row_words
  pub some_row : 1 ≤ row_count t
  pub not_over : row_count t ≤ most_rows
  pub rows : (row : ℕ) → row < row_count t → SoundRow t row
  pub once : (row : ℕ) → row < row_count t - 1 → child_once t row ≡ true
