-- What falls from rewrite to rewrite, and how deep calls go.
use Rattle.std.specs.Prelude.{ℕ, ◌+◌, ◌*◌, max, Bool, true, false}
use Rattle.std.proofs.Math.Option.{Option, none, some}
use Rattle.rules.specs.Form.{Form, leaf, ◌∪◌, ◌∩◌, ◌∖◌}

-- every rule that is taken lowers it, in the tree (true) and out of it (false)
unfoldable pub weight : Form → Bool → ℕ
weight (leaf i) s = 2
weight (X ∪ Y) true = weight X true + weight Y true + 5
weight (X ∪ Y) false = (weight X false + 2) * weight Y false
weight (X ∩ Y) true = (weight X true + 1) * weight Y true
weight (X ∩ Y) false = weight X false + weight Y false + 5
weight (X ∖ Y) true = (weight X true + 2) * weight Y false
weight (X ∖ Y) false = weight X false + weight Y true + 5

unfoldable pub fitting : Option Form → ℕ
fitting none = 0
fitting (some U) = 1

-- calls that stand open at once in a tree as it is: left parts, and the right part of a union
unfoldable pub calls : Form → ℕ
calls (leaf i) = 0
calls (X ∪ Y) = 1 + max (calls X) (calls Y)
calls (X ∩ Y) = 1 + calls X
calls (X ∖ Y) = 1 + calls X

-- and in what it may come to
unfoldable pub high : Form → Bool → ℕ
high (leaf i) s = 0
high (X ∪ Y) true = 1 + max (high X true) (high Y true)
high (X ∪ Y) false = 1 + high X false + high Y false
high (X ∩ Y) true = 1 + high X true + high Y true
high (X ∩ Y) false = 1 + max (high X false) (high Y false)
high (X ∖ Y) true = 1 + high X true + high Y false
high (X ∖ Y) false = 1 + max (high X false) (high Y true)
