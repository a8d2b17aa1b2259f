-- A row on a side as a step of a plan, and what is remembered of a table's rows.
use Rattle.std.specs.Prelude.{ℕ, ◌+◌, ◌-◌, ◌^◌, ◌<◌, Bool, true, false, List, ◌⊎◌, ◌≡◌, ℤ, length, get_or}
use Rattle.std.proofs.Math.Option.{some}
use Rattle.rules.specs.declared.Primitive.{Primitive}
use Rattle.rules.specs.declared.Row.TheVariants.{Solid}
use Rattle.rules.specs.Table.{row_count, row_at, primitives_before}
use Rattle.rules.specs.Tree.{tree_at}
use Rattle.rules.specs.Choices.{Side, in_of, out_of}
use Rattle.laws.specs.Plans.{Plan, with_it, without, either, both, plan, count}
use Rattle.choice.specs.declared.Step.{Step}
use Rattle.choice.specs.declared.Step.TheVariants.{With, Without, Either, Both}

abbrev pub side_of : Bool → Side
side_of true = in_of
side_of false = out_of

unfoldable pub plan_at : List ℤ → ℕ → Bool → Plan
plan_at t row within = plan (side_of within) (tree_at t row)

-- the plan of a table: that of its last row
abbrev pub root_plan : List ℤ → Plan
root_plan t = plan_at t (row_count t - 1) true

-- a step of row `row` stands for a plan; its parts are earlier rows
abbrev pub IsStep : List ℤ → ℕ → Plan → Step → Type 0
IsStep t row p (With bit) = (i : ℕ) × (p ≡ with_it i) × (bit ≡ 2 ^ i)
IsStep t row p (Without bit) = (i : ℕ) × (p ≡ without i) × (bit ≡ 2 ^ i)
IsStep t row p (Either a sa b sb) = (p ≡ either (plan_at t a sa) (plan_at t b sb)) × (a < row) × (b < row)
IsStep t row p (Both a sa b sb) = (p ≡ both (plan_at t a sa) (plan_at t b sb)) × (a < row) × (b < row)

-- each primitive's bit stands at its row, in the first rows and in all
pub record NumberedTo (t : List ℤ) (bits : List ℕ) (rows : ℕ) : Type 0 where
  pub size : length bits ≡ 127
  pub bit : (row : ℕ) → row < rows → (s : Primitive) → row_at t row ≡ some (Solid s) → get_or bits row 0 ≡ 2 ^ length (primitives_before t row)

abbrev pub Numbered : List ℤ → List ℕ → Type 0
Numbered t bits = NumberedTo t bits (row_count t)

abbrev pub slot_of : ℕ → Bool → ℕ
slot_of row true = row
slot_of row false = 127 + row

-- each count that is not 0 is right
pub record Remembered (t : List ℤ) (counts : List ℕ) : Type 0 where
  pub size : length counts ≡ 254
  pub right : (row : ℕ) → row < row_count t → (within : Bool) → (get_or counts (slot_of row within) 0 ≡ 0) ⊎ (get_or counts (slot_of row within) 0 ≡ count (plan_at t row within))
