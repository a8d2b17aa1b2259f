-- The list of some choices, by two answers about a set of uncomplemented primitives: whether the product's box is there at all, and which
-- primitives' boxes share a point with it.
use Rattle.std.specs.Prelude.{ℕ, Bool, List, map}
use Rattle.std.specs.Int.Bits.{bit_and}
use Rattle.ground.specs.Lists.{keep_if}
use Rattle.rules.specs.declared.Product.{Product}
use Rattle.rules.specs.Products.{firsts}

module _ (alive : ℕ → Bool) (reach : ℕ → ℕ) where
  abbrev pub pruned : Product → Product
  pruned c = record { plain = c.plain; cuts = bit_and c.cuts (reach c.plain) }

  unfoldable pub survivors : List Product → List Product
  survivors cs = firsts (map pruned (keep_if (λ c. alive c.plain) cs))
