-- The tree of a sound table answers as its choices do. Assumes nothing.
use mathlib.Core.List.{List}
use mathlib.Core.Path.{◌≡◌}
use lib.IntN.{ℤ}
use Rattle.ground.specs.Lists.{any_of}
use Rattle.rules.specs.declared.Point.{Point}
use Rattle.rules.specs.Table.{primitives}
use Rattle.rules.specs.Tree.{tree_of}
use Rattle.rules.specs.Inside.{inside}
use Rattle.rules.specs.Choices.{choices, in_of}
use Rattle.rules.specs.ListInside.{inside_product}
use Rattle.laws.specs.Sound.{Sound}
use Rattle.laws.proofs.Placing.{tree_placed}
use Rattle.promises.proofs.Agreement.{choices_inside}

-- a point is inside the tree just if some choice holds it
pub tree_choices : (t : List ℤ) → Sound t → (p : Point) → inside (tree_of t) p ≡ any_of (λ c. inside_product (primitives t) c p) (choices in_of (tree_of t))
tree_choices t S p = choices_inside (primitives t) p (tree_of t) (tree_placed t S)
