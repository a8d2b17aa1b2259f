-- A point's answer by the set of the primitives that hold it: from a tree, and from a list, against the sets that each product names.
use Rattle.std.specs.Prelude.{ℕ, ◌/◌, ◌^◌, Bool, not, ◌&&◌, ◌||◌, List, eqb}
use Rattle.std.specs.Int.Bits.{bit_and}
use Rattle.ground.specs.Bits.{odd, places_of}
use Rattle.ground.specs.Lists.{below, any_of}
use Rattle.rules.specs.declared.Point.{Point}
use Rattle.rules.specs.declared.Primitive.{Primitive}
use Rattle.rules.specs.declared.Product.{Product}
use Rattle.rules.specs.Inside.{inside_solid}
use Rattle.rules.specs.ListWords.{product_count, product_at}
use Rattle.rules.specs.Tree.{Tree, solid, union, inter, diff}

-- the primitives that hold a point
abbrev pub held : List Primitive → Point → ℕ
held solids p = places_of (λ s. inside_solid s p) solids

-- what a tree says of a set of primitives: a primitive is in it or not
unfoldable pub tree_says : Tree → ℕ → Bool
tree_says (solid number s) set = odd (set / 2 ^ number)
tree_says (union left right) set = tree_says left set || tree_says right set
tree_says (inter left right) set = tree_says left set && tree_says right set
tree_says (diff left right) set = tree_says left set && not (tree_says right set)

-- a set of primitives has all that a product asks for, and none of its cuts
abbrev pub suits : ℕ → Product → Bool
suits set c = eqb (bit_and c.plain set) c.plain && eqb (bit_and c.cuts set) 0

-- it suits some product of a list
abbrev pub suits_some : List ℕ → ℕ → Bool
suits_some list set = any_of (λ k. suits set (product_at list k)) (below (product_count list))
