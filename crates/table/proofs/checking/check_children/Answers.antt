use Prim.Native.Nat.{◌-◌}
use native.Mathlib.Omega.{arith}
use mathlib.Core.Path.{◌≡◌, ap, ◌∙◌}
use Rattle.ground.specs.Lists.{rulings}
use Rattle.rules.specs.Table.{row_count}
use Rattle.table.proofs.Checks.{once_rules}
use Rattle.laws.specs.Checking.{checked_by}
use Rattle.table.specs.Reading.{times_to, once_rule}
use Rattle.table.proofs.checking.check_children.Goals as goal

pub returns : goal.returns
returns c =
    let t = c.args.table.now in
    let all : c.args.rows ≡ row_count t = omega arith in
    c.check_once.ensures
    ∙ (λ i. checked_by (rulings (once_rule ((c.child_times.ensures ∙ ap (times_to t) all) i)) 0 (all i - 1)))
    ∙ ap checked_by (once_rules t (omega arith))
