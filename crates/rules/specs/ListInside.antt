-- Section 8 of docs/RULES.md: when a point is inside a product, and inside a list.
use Rattle.std.specs.Prelude.{ℕ, Bool, not, ◌&&◌, List}
use Rattle.ground.specs.Bits.{selected}
use Rattle.ground.specs.Lists.{all_of, any_of}
use Rattle.rules.specs.declared.Point.{Point}
use Rattle.rules.specs.declared.Primitive.{Primitive}
use Rattle.rules.specs.declared.Product.{Product}
use Rattle.rules.specs.Inside.{inside_solid}
use Rattle.rules.specs.ListWords.{products_in}

-- in every primitive of the first word and in none of the second
unfoldable pub inside_product : List Primitive → Product → Point → Bool
inside_product solids c p =
    all_of (λ s. inside_solid s p) (selected c.plain solids) && not (any_of (λ s. inside_solid s p) (selected c.cuts solids))

-- in some product
unfoldable pub inside_list : List Primitive → List ℕ → Point → Bool
inside_list solids list p = any_of (λ c. inside_product solids c p) (products_in list)
