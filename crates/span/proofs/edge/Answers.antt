-- The side falls from that at code 0 by ax - bx a code.
use native.Mathlib.Omega.{arith}
use mathlib.Core.Path.{refl, ◌∙◌}
use lib.IntN.{pos}
use mir.Syntax.{w64}
use Rattle.ground.proofs.Num.{sub_fits, sub_num}
use Rattle.ground.proofs.Signed.{read}
use Rattle.rules.specs.Sides.{side}
use Rattle.laws.proofs.Ranges.{x_in}
use Rattle.solid.proofs.Numbers.{x_num, corner_x}
use Rattle.span.specs.Along.{value}
use Rattle.span.proofs.Along.{as_along}
use Rattle.span.proofs.Order.{side_code, side_most}
use Rattle.span.proofs.edge.Goals as goal

pub overflow_sub-a : goal.overflow_sub-a
overflow_sub-a c = sub_fits (corner_x c.args.a c.requires.corners_value.0) (corner_x c.args.b c.requires.corners_value.1) tt

pub half_values-requires : goal.half_values-requires
half_values-requires c =
    let a = c.args.a in
    let b = c.args.b in
    let p = c.args.p in
    let h = c.requires.corners_value in
    let apart = sub_num (corner_x a h.0) (corner_x b h.1) tt in
    let left = read w64 c.side.type_inv c.side.ensures ∙ λ i. side a b ((x_num p c.requires.p_value).reads i) (pos 0) in
    (rw apart.reads apart.bound, rw left (omega (arith, side_most a b p.x (pos 0) h.0 h.1 (x_in p c.requires.p_value) refl)))

pub returns : goal.returns
returns c =
    let a = c.args.a in
    let b = c.args.b in
    let p = c.args.p in
    let h = c.requires.corners_value in
    let apart = sub_num (corner_x a h.0) (corner_x b h.1) tt in
    let left = read w64 c.side.type_inv c.side.ensures ∙ λ i. side a b ((x_num p c.requires.p_value).reads i) (pos 0) in
    as_along (λ v l. side_code a b p.x (value v)) (rw (left, apart.reads) at c.half_values.ensures)
