use native.Mathlib.Omega.{arith}
use mathlib.Core.List.{flat_map}
use mathlib.Core.Path.{refl}
use Rattle.ground.specs.Lists.{from}
use Rattle.choice.proofs.number_rows.Goals as goal

pub loop-row-init : goal.loop-row-init
unfolding from flat_map
loop-row-init c = (refl, record { size = c.requires.bits_len; bit = λ q h. absurd (omega arith) })
