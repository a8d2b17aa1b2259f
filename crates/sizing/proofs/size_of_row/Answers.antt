-- How many rows a row of the table takes, by the step that is read for it. Assumes nothing.
use Rattle.std.proofs.Common.{true, arith}
use Rattle.choice.specs.Steps.{plan_at}
use Rattle.sizing.proofs.Sizes.{few_rows, step_leaf, step_parts}
use Rattle.sizing.proofs.size_of_row.Goals as goal

pub overflow_add-result : goal.overflow_add-result
overflow_add-result c = record {
  fits = omega (arith, step_parts c.args.table.now c.args.row (plan_at c.args.table.now c.args.row true) c.read_step.ensures c.requires.sized_to c.in-Either.is, few_rows c.args.table.now c.requires.given.0.sound c.args.row c.requires.given.1 true);
}

pub overflow_add-result-in-Either : goal.overflow_add-result-in-Either
overflow_add-result-in-Either c = record {
  fits = omega (arith, step_parts c.args.table.now c.args.row (plan_at c.args.table.now c.args.row true) c.read_step.ensures c.requires.sized_to c.in-Either.is, few_rows c.args.table.now c.requires.given.0.sound c.args.row c.requires.given.1 true);
}

pub returns-in-With : goal.returns-in-With
returns-in-With c = step_leaf c.args.table.now c.args.row (plan_at c.args.table.now c.args.row true) c.read_step.ensures c.in-With.is

pub returns-in-Either : goal.returns-in-Either
returns-in-Either c = step_parts c.args.table.now c.args.row (plan_at c.args.table.now c.args.row true) c.read_step.ensures c.requires.sized_to c.in-Either.is
