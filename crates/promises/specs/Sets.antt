-- The zone as a set of points, by the set operations of document 000: a union holds what either side holds, an intersection what both hold,
-- a difference what the left side holds and the right does not.
use Rattle.std.specs.Prelude.{true, ◌⊎◌, ◌≡◌}
use Rattle.rules.specs.declared.Point.{Point}
use Rattle.rules.specs.Inside.{inside_solid}
use Rattle.rules.specs.Tree.{Tree, solid, union, inter, diff}

unfoldable pub InSet : Tree → Point → Type 0
InSet (solid number s) p = inside_solid s p ≡ true
InSet (union left right) p = InSet left p ⊎ InSet right p
InSet (inter left right) p = InSet left p × InSet right p
InSet (diff left right) p = InSet left p × (InSet right p → ⊥)
