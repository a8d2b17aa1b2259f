-- The places of a walk over rows: what follows a place, and those that are put aside.
use Rattle.std.specs.Prelude.{ℕ, zero, suc, ◌+◌, List, [], ◌∷◌, get_or}
use Rattle.std.specs.Int.Bits.{bit_and, bit_or}
use Rattle.rows.specs.declared.RowKind.{RowKind}
use Rattle.rows.specs.declared.RowKind.TheVariants.{With, Without, Either, Both}
use Rattle.rows.specs.declared.PlanRow.{PlanRow}
use Rattle.rows.specs.Rows.{kind_at, left_at, next_at, below_at, span_at}
use Rattle.places.specs.declared.Place.{Place}

module _ (rows : List PlanRow) where
  -- what is still in reach within the row
  abbrev pub narrowed : Place → ℕ
  narrowed at = bit_and at.reach (span_at rows at.row)

  -- the place in the right part, and the place that is walked next, by the row's kind
  abbrev pub right_of : Place → Place
  right_of at = record at { row = at.row + 1; reach = narrowed at }

  abbrev pub onward_by : RowKind → Place → Place
  onward_by With at = record at { row = next_at rows at.row; plain = bit_or at.plain (below_at rows at.row); reach = narrowed at }
  onward_by Without at = record at { row = next_at rows at.row; cuts = bit_or at.cuts (below_at rows at.row); reach = narrowed at }
  onward_by Either at = record at { row = left_at rows at.row; reach = narrowed at }
  onward_by Both at = right_of at

  abbrev pub onward_of : Place → Place
  onward_of at = onward_by (kind_at rows at.row) at

  -- with the right part of an `either` put aside
  abbrev pub aside_by : RowKind → Place → List Place → List Place
  aside_by With at aside = aside
  aside_by Without at aside = aside
  aside_by Either at aside = right_of at ∷ aside
  aside_by Both at aside = aside

  abbrev pub aside_of : Place → List Place → List Place
  aside_of at aside = aside_by (kind_at rows at.row) at aside

-- the first places, the last of them first
abbrev pub nowhere : Place
nowhere = record { row = 0; plain = 0; cuts = 0; reach = 0 }

abbrev pub last_first : List Place → ℕ → List Place
last_first places zero = []
last_first places (suc n) = get_or places n nowhere ∷ last_first places n
