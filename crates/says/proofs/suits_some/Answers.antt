use mathlib.Core.Path.{refl, sym, ap, ◌∙◌}
use Rattle.ground.proofs.Counting.{any_yes, any_no, any_done, rest_all}
use Rattle.ground.specs.Lists.{any_of}
use Rattle.rules.specs.ListWords.{product_count, product_at}
use Rattle.rules.specs.declared.Product.{Product}
use mathlib.Core.Bool.{Bool}
use mathlib.Core.List.{List}
use mathlib.Core.Path.{◌≡◌}
use Prim.Native.Nat.{ℕ}
use Rattle.laws.specs.Held.{suits}
use Rattle.says.proofs.suits_some.Invariants.{test}
use Rattle.says.proofs.suits_some.Goals as goal

-- product k as it was tested
module _ (list : List ℕ) (set k : ℕ) {p : Product} (is : p ≡ product_at list k) {answer : Bool} (told : answer ≡ suits set p) where
  tested : answer ≡ test list set k
  tested = told ∙ ap (suits set) is

pub loop-k-init : goal.loop-k-init
loop-k-init c = refl

pub returns-then-suits : goal.returns-then-suits
returns-then-suits c =
    let n = product_count c.args.list.now in
    let test = test c.args.list.now c.args.set in
    sym (ap (any_of test) (sym (rest_all n)) ∙ c.loop-k.invariant
    ∙ any_yes test c.loop-k.k n c.loop-k-test.true (sym (tested c.args.list.now c.args.set c.loop-k.k c.product_at.ensures c.suits.ensures) ∙ c.if-suits.true))

pub loop-k-preserved : goal.loop-k-preserved
loop-k-preserved c =
    c.loop-k.invariant
    ∙ any_no (test c.args.list.now c.args.set) c.loop-k.k (product_count c.args.list.now) c.loop-k-test.true
    (sym (tested c.args.list.now c.args.set c.loop-k.k c.product_at.ensures c.suits.ensures) ∙ c.if-suits.false)

pub returns : goal.returns
returns c =
    let n = product_count c.args.list.now in
    let test = test c.args.list.now c.args.set in
    sym (ap (any_of test) (sym (rest_all n)) ∙ c.loop-k.invariant ∙ any_done test c.loop-k.k n c.loop-k-test.false)
