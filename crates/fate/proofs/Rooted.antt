-- The ways of a table's root are the choices of its tree. Assumes nothing.
use Prim.Native.Nat.{ℕ, ◌-◌, ◌<◌}
use mathlib.Core.Bool.{true}
use mathlib.Core.List.{List}
use mathlib.Core.Path.{◌≡◌, sym, ap, subst, ◌∙◌}
use lib.IntN.{ℤ}
use lib.ListN.{length, get_or}
use Rattle.rules.specs.declared.Product.{Product}
use Rattle.rules.specs.Choices.{in_of, choices, expansion}
use Rattle.rules.specs.Table.{row_count}
use Rattle.rules.specs.Tree.{tree_of}
use Rattle.laws.specs.Plans.{plan, count, kth, nothing}
use Rattle.laws.proofs.Ways.{choices_ways, ways_count, ways_kth}
use Rattle.choice.specs.Steps.{plan_at}

module _ (t : List ℤ) {root : ℕ} (is : root ≡ row_count t - 1) where
  pub all_ways : count (plan_at t root true) ≡ expansion (tree_of t)
  unfolding plan_at
  all_ways = ap (λ (row : ℕ). count (plan_at t row true)) is ∙ sym (ap length (choices_ways in_of (tree_of t)) ∙ ways_count (plan in_of (tree_of t)))

  module _ (k : ℕ) (h : k < expansion (tree_of t)) where
    pub way_fits : k < count (plan_at t root true)
    way_fits = subst (λ (n : ℕ). k < n) (sym all_ways) h

    pub kth_way : kth (plan_at t root true) k ≡ get_or (choices in_of (tree_of t)) k nothing
    unfolding plan_at
    kth_way =
        let root_way = ap (λ (row : ℕ). kth (plan_at t row true) k) is in
        let fits = subst (λ (row : ℕ). k < count (plan_at t row true)) is way_fits in
        root_way ∙ sym (ap (λ (cs : List Product). get_or cs k nothing) (choices_ways in_of (tree_of t)) ∙ ways_kth (plan in_of (tree_of t)) k nothing fits)
