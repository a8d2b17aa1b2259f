-- What each row's tree says of a set of primitives, row by row.
use Rattle.std.specs.Prelude.{ℕ, ◌/◌, ◌^◌, ◌<◌, Bool, false, List, ◌≡◌, ℤ, length, get_or}
use Rattle.rules.specs.Table.{primitives_before}
use Rattle.rules.specs.Tree.{tree_at}
use Rattle.laws.specs.Held.{tree_says}

-- the answers of the rows before one, and what is left of the set past their primitives
pub record Said (t : List ℤ) (set row left : ℕ) (answers : List Bool) : Type 0 where
  pub past : left ≡ set / 2 ^ length (primitives_before t row)
  pub size : length answers ≡ 127
  pub each : (r : ℕ) → r < row → get_or answers r false ≡ tree_says (tree_at t r) set
