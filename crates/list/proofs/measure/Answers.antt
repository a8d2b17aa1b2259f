-- Words that are enough. Assumes nothing.
use mathlib.Core.Path.{◌≡◌}
use Prim.Native.Nat.{ℕ}
use native.Mathlib.Omega.{arith}
use Rattle.list.proofs.measure.Goals as goal

pub place_of-most-requires : goal.place_of-most-requires
place_of-most-requires c = omega (arith, c.requires.1)

pub walk-requires : goal.walk-requires
walk-requires c = record { few = omega (arith, c.requires); room = λ e. let z : ◌≡◌ {A = ℕ} 0 1 = cc in absurd (omega arith) }
