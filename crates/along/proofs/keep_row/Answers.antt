-- A row's primitive comes after those of the rows before it; a row without one adds none.
use Prim.Native.Nat.{◌+◌}
use native.Mathlib.Omega.{arith}
use mathlib.Core.List.{List, append-nil}
use mathlib.Core.Path.{sym, ap, subst, ◌∙◌}
use Rattle.rules.specs.declared.Primitive.{Primitive}
use Rattle.rules.specs.Table.{solid_of, primitives_before}
use Rattle.laws.proofs.Expansion.{number_fits}
use Rattle.reach.proofs.Gathering.{next_solids}
use Rattle.span.specs.Along.{point_at}
use Rattle.along.specs.Lines.{Lining}
use Rattle.along.proofs.keep_row.Goals as goal

pub keep_solid-requires-clause-kept_le_met : goal.keep_solid-requires-clause-kept_le_met
keep_solid-requires-clause-kept_le_met c =
    let L = c.requires.lining in
    (L.few, omega (arith, L.number, number_fits c.args.table.now c.requires.sound c.args.row c.requires.row_bound c.in-Some.ensures.0))

pub overflow_add-result : goal.overflow_add-result
overflow_add-result c =
    let few = number_fits c.args.table.now c.requires.sound c.args.row c.requires.row_bound c.in-Some.ensures.0 in
    record { fits = omega (arith, c.requires.lining.number, few) }

pub returns-in-Some : goal.returns-in-Some
returns-in-Some c =
    let a = c.args in
    let t = a.table.now in
    subst (λ (ps : List Primitive). Lining (point_at a.line a.p) ps a.from a.to c.keep_solid.new.entries (a.met + 1))
    (next_solids t a.row (ap solid_of c.in-Some.ensures.0)) (c.keep_solid.ensures (primitives_before t a.row) c.requires.lining)

pub returns-in-None : goal.returns-in-None
returns-in-None c =
    let a = c.args in
    let t = a.table.now in
    subst (λ (ps : List Primitive). Lining (point_at a.line a.p) ps a.from a.to a.entries.now a.met)
    (sym (append-nil (primitives_before t a.row)) ∙ next_solids t a.row c.in-None.ensures) c.requires.lining
