use Prim.Native.Nat.{ℕ, ◌<◌}
use mathlib.Core.Bool.{false}
use mathlib.Core.Path.{◌≡◌}
use Rattle.rules.specs.ListWords.{product_at}
use Rattle.rules.specs.Products.{same}
use Rattle.fate.proofs.told.number_in.Given as goal

-- none of the places before this one has the product
abbrev pub invariant-loop-k : goal.invariant-loop-k
invariant-loop-k l = (i : ℕ) → i < l.k → same (product_at l.list i) l.c ≡ false
