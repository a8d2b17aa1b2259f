use native.Mathlib.Omega.{arith}
use mathlib.Core.List.{List, [], ◌∷◌, ◌++◌, append-nil}
use mathlib.Core.Path.{sym, ap, subst, ◌∙◌}
use Rattle.rules.specs.declared.Primitive.{Primitive}
use Rattle.rules.specs.Table.{solid_of, primitives_before}
use Rattle.laws.proofs.Expansion.{number_fits}
use Rattle.reach.specs.declared.Gathered.{Gathered}
use Rattle.reach.specs.Gathering.{with_one}
use Rattle.reach.proofs.Gathering.{next_solids}
use Rattle.holding.specs.Holding.{Holding}
use Rattle.holding.proofs.Around.{holding_more}
use Rattle.holding.proofs.hold_row.Goals as goal

pub in_solid-inside-requires : goal.in_solid-inside-requires
in_solid-inside-requires c = record { s_value = c.in-Some.ensures.1; p_value = c.requires.p_value }

pub added-requires : goal.added-requires
added-requires c =
    omega (arith, c.requires.holding.found.count, number_fits c.args.table.now c.requires.sound c.args.row c.requires.row_bound c.in-Some.ensures.0)

pub narrow_by-rect-requires : goal.narrow_by-rect-requires
narrow_by-rect-requires c = record { s_value = c.in-Some.ensures.1; p_value = c.requires.p_value; fact = c.requires.holding.here }

pub returns-in-Some : goal.returns-in-Some
returns-in-Some c =
    let t = c.args.table.now in
    let solid = c.in-Some.s in
    let tested = c.added.ensures ∙ ap (with_one c.args.h.found) c.in_solid-inside.ensures in
    subst (λ (ps : List Primitive). Holding ps c.args.p (record { found = c.added.result; rect = c.narrow_by-rect.result }))
    (next_solids t c.args.row (ap solid_of c.in-Some.ensures.0))
    (subst (λ (g : Gathered). Holding (primitives_before t c.args.row ++ (solid ∷ [])) c.args.p (record { found = g; rect = c.narrow_by-rect.result })) (sym tested)
    (holding_more solid c.requires.holding c.narrow_by-rect.ensures))

pub returns-in-None : goal.returns-in-None
returns-in-None c =
    let t = c.args.table.now in
    subst (λ (ps : List Primitive). Holding ps c.args.p c.args.h) (sym (append-nil (primitives_before t c.args.row)) ∙ next_solids t c.args.row c.in-None.ensures) c.requires.holding
