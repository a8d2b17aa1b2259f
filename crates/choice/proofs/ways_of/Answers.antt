-- How many ways there are. Assumes nothing.
use Prim.Native.Nat.{ℕ}
use native.Mathlib.Omega.{arith}
use mathlib.Core.Bool.{true}
use mathlib.Core.Path.{ap, ◌∙◌}
use Rattle.laws.specs.Plans.{count}
use Rattle.choice.specs.Steps.{plan_at}
use Rattle.choice.proofs.Steps.{nothing_remembered}
use Rattle.choice.proofs.ways_of.Goals as goal

pub root-root-requires : goal.root-root-requires
root-root-requires c = c.requires.0

pub count_ways-requires : goal.count_ways-requires
count_ways-requires c =
    let s = c.before.before in record {
      sound = s.requires.0;
      row_bound = omega (arith, s.requires.0.some_row, c.root-root.ensures);
      numbered = s.requires.1;
      remembered = nothing_remembered s.args.table.now;
    }

pub returns : goal.returns
returns c =
    let t = c.args.table.now in
    c.count_ways.ensures.0 ∙ ap (λ (row : ℕ). count (plan_at t row true)) c.root-root.ensures
