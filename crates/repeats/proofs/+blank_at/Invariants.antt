use Prim.Native.Nat.{◌-◌}
use Rattle.repeats.proofs.+blank_at.Given as goal

abbrev pub decreases-blank_at : goal.decreases-blank_at
decreases-blank_at l = 127 - l.row
