-- Section 6 of docs/RULES.md: the ways of choosing, in a subtree and out of it, from the tree alone.
use Rattle.std.specs.Prelude.{ℕ, ◌^◌, List, [], ◌∷◌, ◌++◌, map, length}
use Rattle.std.specs.Int.Bits.{bit_or}
use Rattle.rules.specs.declared.Product.{Product}
use Rattle.rules.specs.Tree.{Tree, solid, union, inter, diff}

pub data Side : Type 0 where
  in_of out_of : Side

-- what two choices come to together
abbrev pub joined : Product → Product → Product
joined a b = record { plain = bit_or a.plain b.plain; cuts = bit_or a.cuts b.cuts }

-- all left choices for the first right choice, then all of them for the second, and so on
infix 6 ◌crossed_with◌
unfoldable pub ◌crossed_with◌ : List Product → List Product → List Product
lefts crossed_with [] = []
lefts crossed_with (r ∷ rights) = map (λ l. joined l r) lefts ++ (lefts crossed_with rights)

unfoldable pub choices : Side → Tree → List Product
choices in_of (solid i s) = record { plain = 2 ^ i; cuts = 0 } ∷ []
choices out_of (solid i s) = record { plain = 0; cuts = 2 ^ i } ∷ []
choices in_of (union left right) = choices in_of left ++ choices in_of right
choices out_of (union left right) = choices out_of left crossed_with choices out_of right
choices in_of (inter left right) = choices in_of left crossed_with choices in_of right
choices out_of (inter left right) = choices out_of left ++ choices out_of right
choices in_of (diff left right) = choices in_of left crossed_with choices out_of right
choices out_of (diff left right) = choices out_of left ++ choices in_of right

-- the expansion count
abbrev pub expansion : Tree → ℕ
expansion tree = length (choices in_of tree)
