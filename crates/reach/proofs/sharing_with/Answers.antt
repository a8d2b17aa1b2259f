use mathlib.Core.List.{flat_map}
use mathlib.Core.Path.{refl}
use Rattle.ground.specs.Bits.{places_of}
use Rattle.ground.specs.Lists.{from}
use Rattle.reach.proofs.sharing_with.Goals as goal

pub loop-row-init : goal.loop-row-init
unfolding from flat_map places_of
loop-row-init c = record { set = refl; count = refl }
