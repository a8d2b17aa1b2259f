use Prim.Native.Nat.{◌+◌}
use native.Mathlib.Nat.{le_refl}
use mathlib.Core.Path.{ap₂, ◌∙◌}
use mir.Syntax.{w64}
use Rattle.ground.proofs.Signed.{read}
use Rattle.laws.proofs.Ranges.{x_in, y_in, cx_in, cy_in, rx_in, ry_in}
use Rattle.solid.proofs.Numbers.{x_num, y_num, cx_num, cy_num, rx_num, ry_num}
use Rattle.margin.specs.Edges.{bend_weight}
use Rattle.margin.proofs.Signs.{slack_as}
use Rattle.margin.proofs.ellipse_slack.Goals as goal

pub bend_weight-requires : goal.bend_weight-requires
bend_weight-requires c =
    let d = c.args.d in
    let p = c.args.p in
    let h = c.requires.d_value in
    let k = c.requires.p_value in record {
      radius_value = rw (ry_num d h).reads (ry_in d h);
      centre_value = (rw (cx_num d h).reads (cx_in d h), rw (x_num p k).reads (x_in p k));
    }

pub bend_weight-requires-2 : goal.bend_weight-requires-2
bend_weight-requires-2 c =
    let d = c.args.d in
    let p = c.args.p in
    let h = c.requires.d_value in
    let k = c.requires.p_value in record {
      radius_value = rw (rx_num d h).reads (rx_in d h);
      centre_value = (rw (cy_num d h).reads (cy_in d h), rw (y_num p k).reads (y_in p k));
    }

pub past_ellipse-requires : goal.past_ellipse-requires
past_ellipse-requires c =
    let d = c.args.d in
    let h = c.requires.d_value in
    record {
      centre_value = (cx_in d h, cy_in d h);
      radii_value = (rx_in d h, ry_in d h);
      place_value = (x_in c.args.p c.requires.p_value, y_in c.args.p c.requires.p_value);
    }

pub returns-clause-slack : goal.returns-clause-slack
returns-clause-slack c =
    let d = c.args.d in
    let p = c.args.p in
    let h = c.requires.d_value in
    let k = c.requires.p_value in
    let across = c.bend_weight.ensures.value ∙ λ i. bend_weight ((ry_num d h).reads i) ((cx_num d h).reads i) ((x_num p k).reads i) in
    let along = c.bend_weight-2.ensures.value ∙ λ i. bend_weight ((rx_num d h).reads i) ((cy_num d h).reads i) ((y_num p k).reads i) in
    let past = read w64 c.past_ellipse.type_inv c.past_ellipse.ensures.value in
    slack_as (le_refl c.slack.result) past (ap₂ ◌+◌ across along) c.slack.ensures.slack
