use Prim.Native.Nat.{ℕ}
use lib.ListN.{length-replicate}
use Rattle.telling.proofs.Made.{made_once, made_few}
use Rattle.telling.proofs.tell_table.Goals as goal

pub tell_ways-requires-clause-each_once : goal.tell_ways-requires-clause-each_once
tell_ways-requires-clause-each_once g c = made_once c.in-Ok.ensures

pub tell_ways-requires-clause-list_bound : goal.tell_ways-requires-clause-list_bound
tell_ways-requires-clause-list_bound g c = made_few c.in-Ok.ensures (length-replicate {A = ℕ} 131080 0)

pub say_list-requires : goal.say_list-requires
say_list-requires g c = (made_once c.in-Ok.ensures).room
