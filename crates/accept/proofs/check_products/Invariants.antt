use Prim.Native.Nat.{ℕ}
use mathlib.Core.List.{List}
use mathlib.Core.Option.{Option}
use mathlib.Core.Path.{◌≡◌}
use Rattle.ground.specs.Lists.{first_of, rulings}
use Rattle.rules.specs.ListFaults.{product_refusals}
use Rattle.rules.specs.declared.Refusal.{Refusal}
use Rattle.accept.proofs.check_products.Given as goal

-- the faults of product k
abbrev pub rule : List ℕ → ℕ → Option Refusal
rule list k = first_of (product_refusals list k)

abbrev pub invariant-loop-k : goal.invariant-loop-k
invariant-loop-k l = rulings (rule l.list) 0 l.products ≡ rulings (rule l.list) l.k l.products
