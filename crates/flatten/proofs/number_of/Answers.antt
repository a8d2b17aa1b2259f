-- Before the first row there is none. Assumes nothing.
use mathlib.Core.List.{flat_map}
use mathlib.Core.Path.{refl}
use Rattle.ground.specs.Lists.{from}
use Rattle.flatten.proofs.number_of.Goals as goal

pub loop-r-init : goal.loop-r-init
unfolding from flat_map
loop-r-init c = refl
