use Rattle.laws.proofs.Ranges.{x_in, y_in, triangle_corners_right, frames_of_triangle}
use Rattle.span.proofs.Lines.{ends_read}
use Rattle.span.proofs.triangle_span.Goals as goal

pub in_corners-requires : goal.in_corners-requires
in_corners-requires c = record {
  t_value = triangle_corners_right c.args.t c.requires.t_value;
  place_value = (x_in c.args.p c.requires.p_value, y_in c.args.p c.requires.p_value);
}

pub frames_if-requires : goal.frames_if-requires
frames_if-requires c = ends_read c.args.t.zlo c.args.t.zhi (frames_of_triangle c.args.t c.requires.t_value)
