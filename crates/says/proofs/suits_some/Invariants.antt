use Prim.Native.Nat.{ℕ}
use mathlib.Core.Bool.{Bool}
use mathlib.Core.List.{List}
use mathlib.Core.Path.{◌≡◌}
use Rattle.ground.specs.Lists.{rest, any_of}
use Rattle.rules.specs.ListWords.{product_count, product_at}
use Rattle.laws.specs.Held.{suits}
use Rattle.says.proofs.suits_some.Given as goal

abbrev pub test : List ℕ → ℕ → ℕ → Bool
test list set k = suits set (product_at list k)

abbrev pub invariant-loop-k : goal.invariant-loop-k
invariant-loop-k l = any_of (test l.list l.set) (rest 0 (product_count l.list)) ≡ any_of (test l.list l.set) (rest l.k (product_count l.list))
