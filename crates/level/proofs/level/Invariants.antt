use lib.ListN.{take}
use Rattle.level.specs.Levels.{Levels}
use Rattle.level.proofs.level.Given as goal

abbrev pub invariant-loop-entry : goal.invariant-loop-entry
invariant-loop-entry l = Levels (take l.entry-index l.entries) l.v l.from (record { set = l.set; floor = l.floor })
