-- Rows whose masks are filled in from those of the leaves, from the last row to the first.
use Rattle.std.specs.Prelude.{ℕ, ◌+◌, ◌≤◌, ◌<◌, Bool, true, false, ◌&&◌, ◌||◌, List, ◌≡◌, get_or, if◌then◌else◌}
use Rattle.std.specs.Int.Bits.{bit_and, bit_or}
use Rattle.laws.specs.Plans.{Plan, with_it, without, mask, blank}
use Rattle.rows.specs.Masks.{span, risk}
use Rattle.rows.specs.declared.RowKind.{RowKind}
use Rattle.rows.specs.declared.RowKind.TheVariants.{With, Without, Either, Both}
use Rattle.rows.specs.declared.Masks.{Masks}
use Rattle.rows.specs.declared.PlanRow.{PlanRow}
use Rattle.rows.specs.Rows.{links_at, masks_at, kind_at, left_at, plan_in, with_masks}

module _ (meets : List ℕ) (seen : ℕ) where
  -- masks are those of a plan
  pub record MasksOf (masks : Masks) (p : Plan) : Type 0 where
    pub below : masks.below ≡ mask p
    pub spans : masks.span ≡ span meets seen p
    pub risky : masks.risk ≡ risk p

  -- a leaf has its masks; of a row with two parts nothing is said
  abbrev pub LeafMasks : RowKind → ℕ → Masks → Type 0
  LeafMasks With number masks = MasksOf masks (with_it number)
  LeafMasks Without number masks = MasksOf masks (without number)
  LeafMasks Either number masks = Unit {0}
  LeafMasks Both number masks = Unit {0}

  -- of the first rows, each leaf has its masks
  abbrev pub LeavesTo : List PlanRow → ℕ → Type 0
  LeavesTo rows n = (y : ℕ) → y < n → LeafMasks (kind_at rows y) (left_at rows y) (masks_at rows y)

  -- the rows from x to the end have their masks
  abbrev pub FullFrom : List PlanRow → ℕ → ℕ → Type 0
  FullFrom rows end x = (y : ℕ) → x ≤ y → y < end → MasksOf (masks_at rows y) (plan_in rows y)

-- whether some choice of a row comes to nothing, from x to the end
abbrev pub HolesFrom : List PlanRow → List Bool → ℕ → ℕ → Type 0
HolesFrom rows holes end x = (y : ℕ) → x ≤ y → y < end → get_or holes y false ≡ blank (plan_in rows y) 0

-- with the same links, masks of the leaves become masks of all rows from x on
pub record Fills (before after : List PlanRow) (end x : ℕ) : Type 0 where
  pub links : (y : ℕ) → links_at after y ≡ links_at before y
  pub masks : (meets : List ℕ) (seen : ℕ) → LeavesTo meets seen before end → LeavesTo meets seen after end × FullFrom meets seen after end x

-- an inner row's masks, by those of its parts; `hollow` says that both parts have a choice that comes to nothing
abbrev pub either_masks : Bool → Masks → Masks → Masks
either_masks hollow left right = record {
  below = bit_or left.below right.below;
  span = bit_or left.span right.span;
  risk = bit_or (if◌then◌else◌ hollow right.below 0) (bit_or left.risk right.risk);
}

abbrev pub both_masks : Masks → Masks → Masks
both_masks left right = record { below = bit_or left.below right.below; span = bit_and left.span right.span; risk = bit_or left.risk right.risk }

-- what a row has, by its kind and its parts
module _ (rows : List PlanRow) (holes : List Bool) (x : ℕ) where
  abbrev pub left_hole : Bool
  left_hole = get_or holes (left_at rows x) false

  abbrev pub right_hole : Bool
  right_hole = get_or holes (x + 1) false

  abbrev pub hole_by : RowKind → Bool
  hole_by With = false
  hole_by Without = true
  hole_by Either = left_hole || right_hole
  hole_by Both = left_hole && right_hole

  abbrev pub hole_of : Bool
  hole_of = hole_by (kind_at rows x)

  abbrev pub filled_by : RowKind → List PlanRow
  filled_by With = rows
  filled_by Without = rows
  filled_by Either = with_masks rows x (either_masks (left_hole && right_hole) (masks_at rows (left_at rows x)) (masks_at rows (x + 1)))
  filled_by Both = with_masks rows x (both_masks (masks_at rows (left_at rows x)) (masks_at rows (x + 1)))

  abbrev pub filled_row : List PlanRow
  filled_row = filled_by (kind_at rows x)

abbrev pub filled_in : List Bool → ℕ → List PlanRow → List PlanRow
filled_in holes x rows = filled_row rows holes x
