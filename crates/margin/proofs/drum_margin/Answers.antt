use Rattle.margin.proofs.Shapes.{drum_kept}
use Rattle.margin.proofs.drum_margin.Goals as goal

pub returns-clause-margin : goal.returns-clause-margin
returns-clause-margin c =
    let near = c.ellipse_slack.ensures in
    drum_kept c.args.d c.args.p c.ellipse_slack.result c.requires.p_value near.bounded near.slack
