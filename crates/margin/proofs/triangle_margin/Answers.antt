-- What leaves each edge its side is at most each edge's slack.
use Prim.Native.Nat.{ℕ, ◌≤◌}
use native.Mathlib.Nat.{le_trans, mul-le-mul_right}
use native.Mathlib.Omega.{arith}
use Rattle.rules.specs.declared.Corner.{Corner}
use Rattle.rules.specs.declared.Point.{Point}
use Rattle.rules.specs.Sides.{side}
use Rattle.laws.proofs.Ranges.{first_right, second_right, third_right, triangle_corners_right}
use Rattle.margin.specs.Edges.{Slack, edge_weight}
use Rattle.margin.proofs.Shapes.{triangle_kept}
use Rattle.margin.proofs.triangle_margin.Goals as goal

fewer : (p : Point) (a b : Corner) {m r : ℕ} → m ≤ r → Slack (side a b p.x p.y) (edge_weight a b) r → Slack (side a b p.x p.y) (edge_weight a b) m
fewer p a b l slack = le_trans (mul-le-mul_right (edge_weight a b) l) slack

pub edge_slack-other-requires-clause-corners_value : goal.edge_slack-other-requires-clause-corners_value
edge_slack-other-requires-clause-corners_value c =
    let t = c.args.t in
    let h = triangle_corners_right t c.requires.t_value in
    (second_right t h, third_right t h)

pub edge_slack-last-requires-clause-corners_value : goal.edge_slack-last-requires-clause-corners_value
edge_slack-last-requires-clause-corners_value c =
    let t = c.args.t in
    let h = triangle_corners_right t c.requires.t_value in
    (third_right t h, first_right t h)

pub returns-clause-margin : goal.returns-clause-margin
returns-clause-margin c =
    let t = c.args.t in
    let p = c.args.p in
    let m = c.min-2.result in
    let of_first : m ≤ c.edge_slack-one.result = omega (arith, c.min.ensures, c.min-2.ensures) in
    let of_second : m ≤ c.edge_slack-other.result = omega (arith, c.min.ensures, c.min-2.ensures) in
    let of_third : m ≤ c.edge_slack-last.result = omega (arith, c.min-2.ensures) in
    triangle_kept t p m c.requires.p_value
    (fewer p t.first t.second of_first c.edge_slack-one.ensures.slack)
    (fewer p t.second t.third of_second c.edge_slack-other.ensures.slack)
    (fewer p t.third t.first of_third c.edge_slack-last.ensures.slack)
