-- What a table and a list that were accepted have.
use Rattle.std.specs.Prelude.{ℕ, List, ◌≡◌, ℤ}
use Rattle.std.proofs.Math.Option.{none}
use Rattle.rules.specs.ListCalls.{accept_refusal}
use Rattle.rules.specs.ListFaults.{list_refusal, primitives_refusal}
use Rattle.rules.specs.Table.{primitives}
use Rattle.rules.specs.Verdict.{table_refusal}

-- a table and a list that have passed: all checks, and each of them
pub record Accepted (t : List ℤ) (list : List ℕ) : Type 0 where
  pub accepts : accept_refusal t list ≡ none
  pub table : table_refusal t ≡ none
  pub list_right : list_refusal list ≡ none
  pub counts : primitives_refusal (primitives t) list ≡ none
