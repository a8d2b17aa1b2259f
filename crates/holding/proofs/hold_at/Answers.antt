use mathlib.Core.List.{flat_map}
use Rattle.ground.specs.Lists.{from}
use Rattle.holding.proofs.Around.{holding_none}
use Rattle.holding.proofs.hold_at.Goals as goal

pub loop-row-init : goal.loop-row-init
unfolding from flat_map
loop-row-init c = holding_none c.args.p c.requires.p_value
