use Rattle.laws.proofs.Ranges.{first_right, second_right, third_right}
use Rattle.span.proofs.edges.Goals as goal

pub edge-requires-clause-corners_value : goal.edge-requires-clause-corners_value
edge-requires-clause-corners_value c = (second_right c.args.t c.requires.t_value, third_right c.args.t c.requires.t_value)

pub edge-requires-2-clause-corners_value : goal.edge-requires-2-clause-corners_value
edge-requires-2-clause-corners_value c = (third_right c.args.t c.requires.t_value, first_right c.args.t c.requires.t_value)

pub edge-requires-3-clause-corners_value : goal.edge-requires-3-clause-corners_value
edge-requires-3-clause-corners_value c = (first_right c.args.t c.requires.t_value, second_right c.args.t c.requires.t_value)
