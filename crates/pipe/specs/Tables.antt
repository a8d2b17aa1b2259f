-- What is printed for a table.
use Rattle.std.specs.Prelude.{ℕ, List, ℤ}
use Rattle.rules.specs.ListCalls.{make_refusal}
use Rattle.rules.specs.Boxes.{full_range}
use Rattle.rules.specs.Listing.{listing_room, printed}
use Rattle.rules.specs.Products.{products}
use Rattle.rules.specs.Table.{primitives}
use Rattle.rules.specs.Tree.{tree_of}

abbrev pub table_listing : List ℤ → List ℕ
table_listing t = printed (make_refusal t full_range listing_room) (products full_range (primitives t) (tree_of t))
