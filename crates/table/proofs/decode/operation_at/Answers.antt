use mathlib.Core.Path.{refl}
use mir.Syntax.{w32}
use Rattle.ground.proofs.Signed.{from_bits}
use Rattle.rules.specs.declared.Kind.TheVariants as kind
use Rattle.rules.specs.declared.Row.TheVariants.{Union, Inter, Diff}
use Rattle.table.proofs.Rows.{op_row, last_op}
use Rattle.table.proofs.decode.operation_at.Goals as goal

pub returns-in-3 : goal.returns-in-3
returns-in-3 c =
    let s = c.before.before.before in
    op_row _ _ s.requires.operation Union c.child-left.ensures c.child-right.ensures kind.Union refl (from_bits w32 s.ranges.kind c.in-3.in-3-own.keys1)

pub returns-in-4 : goal.returns-in-4
returns-in-4 c =
    let s = c.before.before.before in
    op_row _ _ s.requires.operation Inter c.child-left.ensures c.child-right.ensures kind.Inter refl (from_bits w32 s.ranges.kind c.in-4.in-4-own.keys2)

pub returns-in_default : goal.returns-in_default
returns-in_default c =
    let s = c.before.before.before in
    op_row _ _ s.requires.operation Diff c.child-left.ensures c.child-right.ensures kind.Diff refl (last_op _ _ s.requires.operation c.in_default.in_default-own.rest.0.1 c.in_default.in_default-own.rest.1)
