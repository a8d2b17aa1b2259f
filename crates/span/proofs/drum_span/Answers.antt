use Rattle.laws.proofs.Ranges.{x_in, y_in, cx_in, cy_in, rx_in, ry_in, frames_of_drum}
use Rattle.span.proofs.Lines.{ends_read}
use Rattle.span.proofs.drum_span.Goals as goal

pub in_ellipse-requires : goal.in_ellipse-requires
in_ellipse-requires c =
    let d = c.args.d in
    let h = c.requires.d_value in
    record {
      centre_value = (cx_in d h, cy_in d h);
      radii_value = (rx_in d h, ry_in d h);
      place_value = (x_in c.args.p c.requires.p_value, y_in c.args.p c.requires.p_value);
    }

pub frames_if-requires : goal.frames_if-requires
frames_if-requires c = ends_read c.args.d.zlo c.args.d.zhi (frames_of_drum c.args.d c.requires.d_value)
