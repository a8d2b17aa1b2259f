-- How many rows of the plan each row of a table takes.
use Rattle.std.specs.Prelude.{ℕ, ◌<◌, Bool, List, ◌≡◌, ℤ, length, get_or}
use Rattle.laws.specs.Sound.{Sound}
use Rattle.choice.specs.Steps.{plan_at, Numbered}
use Rattle.rows.specs.Lines.{rows_of}

-- what the rows are made from
pub record Given (t : List ℤ) (bits : List ℕ) : Type 0 where
  pub sound : Sound t
  pub numbered : Numbered t bits

-- how many rows each row of the table takes, in the first rows and in all
pub record SizedTo (t : List ℤ) (sizes : List ℕ) (rows : ℕ) : Type 0 where
  pub long : length sizes ≡ 127
  pub each : (row : ℕ) → row < rows → (within : Bool) → get_or sizes row 0 ≡ rows_of (plan_at t row within)
