use borrow.Author.Rules.{rules}
use Rattle.rules.specs.ListCalls.{ListLocated}
use Rattle.zone_c.proofs.Lent.{same_point, answered}
use Rattle.zone_c.proofs.lampholly_list_point.Goals as goal

pub returns : goal.returns
returns c =
    let s = c.args in
    answered (ListLocated s.table.now s.list.now) (same_point (search rules) (search rules) (search rules))
    c.list_point.ensures c.tell.ensures
