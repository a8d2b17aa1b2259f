-- The one that is asked answers a point by the set of the primitives that hold it. Assumes nothing.
use Prim.Native.Nat.{ℕ}
use mathlib.Core.List.{List, [], ◌∷◌}
use mathlib.Core.Option.{none}
use mathlib.Core.Path.{◌≡◌}
use borrow.Author.Tests.{eqb-true}
use lib.Dec.{eqb}
use lib.IntN.{ℤ}
use lib.ListN.{length}
use Rattle.ground.proofs.Counting.{first_kept}
use Rattle.rules.specs.declared.Rule.TheVariants as rule
use Rattle.rules.specs.declared.Point.{Point}
use Rattle.rules.specs.ListCalls.{accept_refusal}
use Rattle.rules.specs.ListFaults.{list_refusal, primitives_refusal}
use Rattle.rules.specs.ListWords.{primitive_count}
use Rattle.rules.specs.Table.{primitives}
use Rattle.rules.specs.Verdict.{table_refusal}
use Rattle.laws.specs.Held.{held}
use Rattle.laws.specs.Sound.{Sound}
use Rattle.laws.proofs.Held.{tree_by_set, list_by_set}
use Rattle.laws.proofs.SoundLists.{list_sound}
use Rattle.laws.proofs.Soundness.{table_sound, unless_kept}
use Rattle.says.specs.declared.Asked.{Asked}
use Rattle.says.specs.declared.Asked.TheVariants as asked
use Rattle.says.specs.Asking.{said_by, inside_by, Ready}
use Rattle.says.specs.Checks.{Accepted}

pub accepted : (t : List ℤ) (list : List ℕ) → accept_refusal t list ≡ none → Accepted t list
unfolding accept_refusal
accepted t list e =
    let a = first_kept (table_refusal t) (list_refusal list ∷ primitives_refusal (primitives t) list ∷ []) e in
    let b = first_kept (list_refusal list) (primitives_refusal (primitives t) list ∷ []) a.1 in
    record { accepts = e; table = a.0; list_right = b.0; counts = (first_kept (primitives_refusal (primitives t) list) [] b.1).0 }

-- a list that was accepted has as many primitives as the table
same_counts : (t : List ℤ) (list : List ℕ) → Accepted t list → primitive_count list ≡ length (primitives t)
same_counts t list A =
    eqb-true (primitive_count list) (length (primitives t)) (unless_kept (eqb (primitive_count list) (length (primitives t))) rule.Primitives (length (primitives t)) A.counts)

pub by_set : (asked : Asked) (t : List ℤ) (list : List ℕ) (p : Point) → Ready asked t list → inside_by asked t list p ≡ said_by asked t list (held (primitives t) p)
by_set asked.Tree t list p S = tree_by_set t S p
by_set asked.List t list p A = list_by_set (primitives t) p list (list_sound list A.list_right) (same_counts t list A)

pub ready_sound : (asked : Asked) (t : List ℤ) (list : List ℕ) → Ready asked t list → Sound t
ready_sound asked.Tree t list S = S
ready_sound asked.List t list A = table_sound t A.table
