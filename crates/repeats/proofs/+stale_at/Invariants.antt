use Prim.Native.Nat.{◌-◌}
use Rattle.repeats.proofs.+stale_at.Given as goal

abbrev pub decreases-stale_at : goal.decreases-stale_at
decreases-stale_at l = 127 - l.row
