-- A tree or a list that is asked: what it says of a set of primitives, what of a point, and what must hold to ask.
use Rattle.std.specs.Prelude.{ℕ, Bool, List, ℤ}
use Rattle.rules.specs.declared.Point.{Point}
use Rattle.rules.specs.Inside.{inside}
use Rattle.rules.specs.ListInside.{inside_list}
use Rattle.rules.specs.Table.{primitives}
use Rattle.rules.specs.Tree.{tree_of}
use Rattle.laws.specs.Held.{tree_says, suits_some}
use Rattle.laws.specs.Sound.{Sound}
use Rattle.says.specs.declared.Asked.{Asked}
use Rattle.says.specs.declared.Asked.TheVariants as asked
use Rattle.says.specs.Checks.{Accepted}

abbrev pub said_by : Asked → List ℤ → List ℕ → ℕ → Bool
said_by asked.Tree t list set = tree_says (tree_of t) set
said_by asked.List t list set = suits_some list set

abbrev pub inside_by : Asked → List ℤ → List ℕ → Point → Bool
inside_by asked.Tree t list p = inside (tree_of t) p
inside_by asked.List t list p = inside_list (primitives t) list p

abbrev pub Ready : Asked → List ℤ → List ℕ → Type 0
Ready asked.Tree t list = Sound t
Ready asked.List t list = Accepted t list
