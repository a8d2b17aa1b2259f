-- The numbers of a small table's primitives are small. Assumes nothing.
use Prim.Native.Nat.{◌≤◌}
use mathlib.Core.List.{List}
use native.Mathlib.Omega.{arith}
use lib.IntN.{ℤ}
use lib.ListN.{length}
use Rattle.rules.specs.declared.Primitive.{Primitive}
use Rattle.rules.specs.Form.{form_of}
use Rattle.rules.specs.RewriteCall.{most_rewritten}
use Rattle.rules.specs.Table.{primitives}
use Rattle.rules.specs.Tree.{Tree, solid, union, inter, diff, tree_of}
use Rattle.laws.specs.Placed.{Placed}
use Rattle.laws.specs.Sound.{Sound}
use Rattle.laws.proofs.Placing.{tree_placed}
use Rattle.normal.specs.Prefix.{Small}

small_form : (solids : List Primitive) (T : Tree) → length solids ≤ most_rewritten → Placed solids T → Small (form_of T)
unfolding Placed form_of Small
small_form solids (solid i s) h k = omega (arith, k.0)
small_form solids (union l r) h k = (small_form solids l h k.0, small_form solids r h k.1)
small_form solids (inter l r) h k = (small_form solids l h k.0, small_form solids r h k.1)
small_form solids (diff l r) h k = (small_form solids l h k.0, small_form solids r h k.1)

pub root_small : (t : List ℤ) → Sound t → length (primitives t) ≤ most_rewritten → Small (form_of (tree_of t))
root_small t S h = small_form (primitives t) (tree_of t) h (tree_placed t S)
