-- The numbers of a tree's primitives are their places in a list.
use Rattle.std.specs.Prelude.{◌<◌, List, ◌≡◌, length, get_or}
use Rattle.rules.specs.declared.Primitive.{Primitive}
use Rattle.rules.specs.Tree.{Tree, solid, union, inter, diff, nowhere}

unfoldable pub Placed : List Primitive → Tree → Type 0
Placed solids (solid i s) = (i < length solids) × (get_or solids i nowhere ≡ s)
Placed solids (union left right) = Placed solids left × Placed solids right
Placed solids (inter left right) = Placed solids left × Placed solids right
Placed solids (diff left right) = Placed solids left × Placed solids right
