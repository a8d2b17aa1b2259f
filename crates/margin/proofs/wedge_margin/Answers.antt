use Rattle.margin.proofs.Shapes.{wedge_kept}
use Rattle.margin.proofs.wedge_margin.Goals as goal

pub returns-clause-margin : goal.returns-clause-margin
returns-clause-margin c = wedge_kept c.args.w c.args.p c.plane_slack.result c.requires.p_value c.plane_slack.ensures.slack
