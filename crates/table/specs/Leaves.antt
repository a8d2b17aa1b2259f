-- What a walk over the primitives of a table meets at a row: a primitive, which keeps its rules, or none.
use Rattle.std.specs.Prelude.{ℕ, true, List, [], ◌≡◌, ℤ, Option, Some, None}
use Rattle.rules.specs.declared.Primitive.{Primitive}
use Rattle.std.proofs.Math.Option.{some}
use Rattle.rules.specs.declared.Row.TheVariants as row
use Rattle.rules.specs.Table.{row_at, solid_of}
use Rattle.laws.specs.Sound.{solid_right}

abbrev pub LeafAt : List ℤ → ℕ → Option Primitive → Type 0
LeafAt t r (Some s) = (row_at t r ≡ some (row.Solid s)) × (solid_right s ≡ true)
LeafAt t r None = solid_of (row_at t r) ≡ []
