-- Section 19 of docs/RULES.md: normal form, which is a sum of products, and the products of a tree in it.
use Rattle.std.specs.Prelude.{◌^◌, Bool, true, false, ◌&&◌, List, [], ◌∷◌, ◌++◌}
use Rattle.rules.specs.declared.Product.{Product}
use Rattle.rules.specs.Choices.{joined}
use Rattle.rules.specs.Form.{Form, leaf, ◌∪◌, ◌∩◌, ◌∖◌}
use Rattle.rules.specs.Procedure.{is_primitive}

-- a primitive, or a product and one primitive more, plain or complemented
unfoldable pub is_product : Form → Bool
is_product (leaf i) = true
is_product (X ∪ Y) = false
is_product (X ∩ Y) = is_product X && is_primitive Y
is_product (X ∖ Y) = is_product X && is_primitive Y

unfoldable pub is_normal : Form → Bool
is_normal (leaf i) = true
is_normal (X ∪ Y) = is_normal X && is_normal Y
is_normal (X ∩ Y) = is_product X && is_primitive Y
is_normal (X ∖ Y) = is_product X && is_primitive Y

-- its primitives are cut away, and its cuts are wanted
abbrev pub complement : Product → Product
complement c = record { plain = c.cuts; cuts = c.plain }

-- the sets of primitives that a product names; a union, which is none, names nothing
unfoldable pub product_of : Form → Product
product_of (leaf i) = record { plain = 2 ^ i; cuts = 0 }
product_of (X ∪ Y) = record { plain = 0; cuts = 0 }
product_of (X ∩ Y) = joined (product_of X) (product_of Y)
product_of (X ∖ Y) = joined (product_of X) (complement (product_of Y))

-- from left to right
unfoldable pub products_of : Form → List Product
products_of (leaf i) = product_of (leaf i) ∷ []
products_of (X ∪ Y) = products_of X ++ products_of Y
products_of (X ∩ Y) = product_of (X ∩ Y) ∷ []
products_of (X ∖ Y) = product_of (X ∖ Y) ∷ []
