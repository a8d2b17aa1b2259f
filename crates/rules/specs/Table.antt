-- Section 2 of docs/RULES.md: the table's words and rows, and reading a row.
use Rattle.std.specs.Prelude.{ℕ, ◌+◌, ◌*◌, ◌/◌, length, get_or, ℤ, pos, negsuc}
use mathlib.Core.List.{List, [], ◌∷◌, flat_map}
use Rattle.std.proofs.Math.Option.{Option, none, some}
use Rattle.ground.specs.Lists.{below}
use Rattle.rules.specs.declared.Kind.{Kind}
use Rattle.rules.specs.declared.Kind.TheVariants as kind
use Rattle.rules.specs.declared.BoxShape.{BoxShape}
use Rattle.rules.specs.declared.WedgeShape.{WedgeShape}
use Rattle.rules.specs.declared.DrumShape.{DrumShape}
use Rattle.rules.specs.declared.Corner.{Corner}
use Rattle.rules.specs.declared.TriangleShape.{TriangleShape}
use Rattle.rules.specs.declared.Primitive.{Primitive}
use Rattle.rules.specs.declared.Primitive.TheVariants as primitive
use Rattle.rules.specs.declared.Row.{Row}
use Rattle.rules.specs.declared.Row.TheVariants.{Solid, Union, Inter, Diff}
use Rattle.rules.specs.Kinds.{kind_of}

abbrev pub row_words : ℕ
row_words = 12

abbrev pub most_rows : ℕ
most_rows = 127

abbrev pub row_count : List ℤ → ℕ
row_count t = length t / row_words

abbrev pub word_at : List ℤ → ℕ → ℕ → ℤ
word_at t row k = get_or t (row * row_words + k) (pos 0)

-- the shapes that a row's words w 1, w 2 .. spell
abbrev pub box_shape : (ℕ → ℤ) → BoxShape
box_shape w = record { xlo = w 1; xhi = w 2; ylo = w 3; yhi = w 4; zlo = w 5; zhi = w 6 }

abbrev pub wedge_shape : (ℕ → ℤ) → WedgeShape
wedge_shape w = record { bounds = box_shape w; a = w 7; b = w 8; c = w 9; d = w 10 }

abbrev pub drum_shape : (ℕ → ℤ) → DrumShape
drum_shape w = record { cx = w 1; cy = w 2; rx = w 3; ry = w 4; zlo = w 5; zhi = w 6 }

abbrev pub corner : (ℕ → ℤ) → ℕ → Corner
corner w k = record { x = w k; y = w (k + 1) }

abbrev pub triangle_shape : (ℕ → ℤ) → TriangleShape
triangle_shape w = record { first = corner w 1; second = corner w 3; third = corner w 5; zlo = w 7; zhi = w 8 }

-- an operation on the rows that two words name; a negative word names none
abbrev pub operation : (ℕ → ℕ → Row) → ℤ → ℤ → Option Row
operation op (pos left) (pos right) = some (op left right)
operation op (pos left) (negsuc right) = none
operation op (negsuc left) right = none

abbrev pub row_of : Kind → (ℕ → ℤ) → Option Row
row_of kind.Box w = some (Solid (primitive.Box (box_shape w)))
row_of kind.Wedge w = some (Solid (primitive.Wedge (wedge_shape w)))
row_of kind.Drum w = some (Solid (primitive.Drum (drum_shape w)))
row_of kind.Union w = operation Union (w 1) (w 2)
row_of kind.Inter w = operation Inter (w 1) (w 2)
row_of kind.Diff w = operation Diff (w 1) (w 2)
row_of kind.Triangle w = some (Solid (primitive.Triangle (triangle_shape w)))

abbrev pub kind_at : List ℤ → ℕ → Option Kind
kind_at t row = kind_of (word_at t row 0)

-- a row, where its kind is known and no child is negative
abbrev pub row_by : Option Kind → (ℕ → ℤ) → Option Row
row_by none w = none
row_by (some k) w = row_of k w

abbrev pub row_at : List ℤ → ℕ → Option Row
row_at t row = row_by (kind_at t row) (word_at t row)

-- the primitives of a table: their numbers are their places here, in row order
abbrev pub solid_of : Option Row → List Primitive
solid_of none = []
solid_of (some (Solid s)) = s ∷ []
solid_of (some (Union left right)) = []
solid_of (some (Inter left right)) = []
solid_of (some (Diff left right)) = []

abbrev pub primitives_before : List ℤ → ℕ → List Primitive
primitives_before t row = flat_map (λ r. solid_of (row_at t r)) (below row)

abbrev pub primitives : List ℤ → List Primitive
primitives t = primitives_before t (row_count t)
