-- One primitive more, or none. Assumes nothing.
use Prim.Native.Nat.{ℕ, ◌+◌}
use native.Mathlib.Nat.{add-zero}
use native.Mathlib.Omega.{arith}
use mathlib.Core.Path.{sym, ap, ◌∙◌}
use Rattle.rules.specs.Table.{solid_of}
use Rattle.laws.proofs.Expansion.{number_fits}
use Rattle.choice.proofs.Steps.{number_next}
use Rattle.flatten.proofs.count_row.Goals as goal

pub overflow_add-result : goal.overflow_add-result
overflow_add-result c =
    let few = number_fits c.args.table.now c.requires.sound c.args.row c.requires.row_bound c.in-Some.ensures.0 in record { fits = omega (arith, c.requires.n_value) }

pub returns-in-Some : goal.returns-in-Some
returns-in-Some c = ap (λ (n : ℕ). n + 1) c.requires.n_value ∙ number_next c.requires.sound c.args.row (ap solid_of c.in-Some.ensures.0)

pub returns-in-None : goal.returns-in-None
returns-in-None c = c.requires.n_value ∙ sym (add-zero _) ∙ number_next c.requires.sound c.args.row c.in-None.ensures
