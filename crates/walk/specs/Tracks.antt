-- The walk over rows, as code makes it: where it goes on, and what it writes.
use Rattle.std.specs.Prelude.{ℕ, zero, suc, ◌+◌, ◌-◌, ◌*◌, ◌^◌, ◌≤◌, Bool, false, not, ◌&&◌, ◌≡◌, eqb, length, if◌then◌else◌, Some, None}
use Rattle.std.proofs.Common.{Option}
use mathlib.Core.List.{List, [], ◌∷◌, flat_map}
use Rattle.std.specs.Int.Bits.{bit_and}
use Rattle.std.proofs.lemmas.List.Edits.{sets}
use Rattle.rules.specs.declared.Product.{Product}
use Rattle.rules.specs.ListWords.{words_of, place_of}
use Rattle.rows.specs.declared.PlanRow.{PlanRow}
use Rattle.rows.specs.Rows.{done_at, plan_in}
use Rattle.repeats.specs.Repeats.{stale}
use Rattle.places.specs.declared.Place.{Place}
use Rattle.places.specs.Places.{narrowed, onward_of, aside_of}

module _ (rows : List PlanRow) where
  -- the right part of a `both` that is done, just before its left part, holds a repeat
  abbrev pub aged_by : Option ℕ → Place → Bool
  aged_by None at = false
  aged_by (Some done) at = stale (plan_in rows done) at.plain at.cuts at.reach

  abbrev pub aged_at : Place → Bool
  aged_at at = aged_by (done_at rows at.row) at

  -- the walk goes into the row
  abbrev pub entered : Place → Bool
  entered at = eqb (bit_and at.plain (narrowed rows at)) at.plain && not (aged_at at)

  abbrev pub open_at : ℕ → Place → Bool
  open_at end at = not (eqb at.row end) && entered at

  -- where nothing more is chosen: the product, if it is alive and no earlier choice comes to the same
  unfoldable pub end_of : ℕ → Place → List Product
  end_of end at =
      if◌then◌else◌ (eqb at.row end && (eqb (bit_and at.plain at.reach) at.plain && not (stale (plan_in rows 0) at.plain at.cuts at.reach)))
      (record { plain = at.plain; cuts = bit_and at.cuts at.reach } ∷ []) []

  -- all that is listed from a place on
  unfoldable pub walk_to : ℕ → ℕ → Place → List Product
  walk_to zero end at = []
  walk_to (suc depth) end at = if◌then◌else◌ (open_at end at) (flat_map (walk_to depth end) (onward_of rows at ∷ aside_of rows at [])) (end_of end at)

  unfoldable pub walk_at : ℕ → Place → List Product
  walk_at end at = walk_to (end + 1 - at.row) end at

-- the walk begins at the first row, with nothing chosen
abbrev pub start_of : ℕ → Place
start_of seen = record { row = 0; plain = 0; cuts = 0; reach = seen }

-- each place was put aside two rows or more after the one below it
unfoldable pub Held : ℕ → List Place → Type 0
Held end [] = Unit {0}
Held end (at ∷ aside) = (2 * length aside ≤ at.row) × ((at.row ≤ end) × Held end aside)

-- a bound on the steps that are left
unfoldable pub steps_left : ℕ → List Place → ℕ
steps_left end [] = 0
steps_left end (at ∷ aside) = 2 ^ (end + 1 - at.row) + steps_left end aside

-- going on from places leaves what is listed
pub record Goes (rows : List PlanRow) (end : ℕ) (from to : List Place) : Type 0 where
  pub lists : flat_map (walk_at rows end) to ≡ flat_map (walk_at rows end) from
  pub held : Held end to
  pub less : steps_left end to ≤ steps_left end from

-- after n products, those of a list are counted, and written if they are to be kept; nothing else is changed, and r is how many there are then
pub record Put (keeps : Bool) (before after : List ℕ) (n r : ℕ) (products : List Product) : Type 0 where
  pub count : r ≡ n + length products
  pub words : after ≡ sets before (place_of n) (if◌then◌else◌ keeps (flat_map words_of products) [])
