use Prim.Native.Nat.{◌+◌}
use native.Mathlib.Nat.{le_refl}
use mathlib.Core.Path.{ap₂, ◌∙◌}
use lib.IntN.{nat_abs, ◌-ℤ◌}
use mir.Syntax.{w64}
use Rattle.ground.proofs.Signed.{read}
use Rattle.rules.specs.Sides.{side}
use Rattle.laws.proofs.Ranges.{x_in, y_in}
use Rattle.solid.proofs.Numbers.{x_num, y_num, corner_x, corner_y}
use Rattle.margin.proofs.Signs.{slack_as}
use Rattle.margin.proofs.edge_slack.Goals as goal

pub side-requires-clause-x_value : goal.side-requires-clause-x_value
side-requires-clause-x_value c =
    let p = c.args.p in
    let h = c.requires.p_value in
    (rw (x_num p h).reads (x_in p h), rw (y_num p h).reads (y_in p h))

pub returns-clause-slack : goal.returns-clause-slack
returns-clause-slack c =
    let a = c.args.a in
    let b = c.args.b in
    let p = c.args.p in
    let h = c.requires.p_value in
    let k = c.requires.corners_value in
    let is = read w64 c.side.type_inv c.side.ensures ∙ λ i. side a b ((x_num p h).reads i) ((y_num p h).reads i) in
    let codes = c.abs_diff.ensures ∙ λ i. nat_abs ((corner_y a k.0).reads i -ℤ (corner_y b k.1).reads i) in
    let columns = c.abs_diff-2.ensures ∙ λ i. nat_abs ((corner_x b k.1).reads i -ℤ (corner_x a k.0).reads i) in
    slack_as (le_refl c.slack.result) is (ap₂ ◌+◌ codes columns) c.slack.ensures.slack
