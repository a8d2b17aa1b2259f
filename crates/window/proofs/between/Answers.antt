use Rattle.window.proofs.Reread.{axis}
use Rattle.window.proofs.between.Goals as goal

pub returns : goal.returns
returns c = axis c.ranges.lo c.ranges.v c.ranges.hi
