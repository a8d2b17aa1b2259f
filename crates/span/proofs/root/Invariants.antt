use Prim.Native.Nat.{ℕ, ◌≤◌, ◌<◌, ◌*◌, ◌-◌}
use Rattle.span.proofs.root.Given as goal

-- what fits stays fitting, what is over stays over, and they close in
pub record Inv (r2 room fits over : ℕ) : Type 0 where
  pub apart : fits < over
  pub top : over ≤ 4097
  pub under : r2 * (fits * fits) ≤ room
  pub above : room < r2 * (over * over)

abbrev pub invariant-loop-fits : goal.invariant-loop-fits
invariant-loop-fits l = Inv l.r2 l.room l.fits l.over

abbrev pub decreases-loop-fits : goal.decreases-loop-fits
decreases-loop-fits l = l.over - l.fits
