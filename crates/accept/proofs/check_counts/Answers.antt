use Prim.Native.Nat.{ℕ}
use mathlib.Core.Path.{ap, ◌∙◌}
use lib.Dec.{eqb}
use Rattle.rules.specs.declared.Rule.TheVariants as rule
use Rattle.rules.specs.ListWords.{primitive_count}
use Rattle.rules.specs.Refusals.{refuse_unless}
use Rattle.laws.specs.Checking.{checked_by}
use Rattle.accept.proofs.Checks.{if_not}
use Rattle.accept.proofs.check_counts.Goals as goal

pub returns : goal.returns
returns c =
    let w = primitive_count c.args.list.now in
    let n = c.primitive_count-primitives.result in
    c.refuse_if.ensures
    ∙ ap checked_by (if_not (eqb w n) rule.Primitives n ∙ ap (λ (k : ℕ). refuse_unless (eqb w k) rule.Primitives k) c.primitive_count-primitives.ensures)
