use mathlib.Core.Path.{refl}
use Rattle.table.specs.Reading.{tallied}
use Rattle.table.proofs.checking.child_times.Goals as goal

pub loop-parent-init : goal.loop-parent-init
unfolding tallied Rattle.ground.specs.Lists.from mathlib.Core.List.flat_map
loop-parent-init c = refl
