use native.Mathlib.Omega.{arith}
use mathlib.Core.List.{flat_map}
use mathlib.Core.Path.{refl}
use Rattle.ground.specs.Bits.{places_of}
use Rattle.ground.specs.Lists.{from}
use Rattle.level.specs.Levels.{set_at}
use Rattle.along.proofs.line_up.Goals as goal

pub loop-row-init : goal.loop-row-init
unfolding from flat_map places_of set_at
loop-row-init c = rw c.clear.ensures (record { number = refl; few = omega arith; each = λ v a b. refl })
