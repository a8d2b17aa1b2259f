use Rattle.choice.specs.Steps.{Remembered}
use Rattle.fate.specs.FirstWays.{ToldTo}
use Rattle.telling.proofs.tell_ways.Given as goal

abbrev pub invariant-loop-k : goal.invariant-loop-k
invariant-loop-k g l = Remembered l.table l.counts × ToldTo l.table l.window l.list l.firsts l.k-counter l.products
