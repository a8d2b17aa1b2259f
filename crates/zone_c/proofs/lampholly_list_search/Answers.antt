use borrow.Author.Rules.{rules}
use Rattle.rules.specs.ListCalls.{ListSearched}
use Rattle.zone_c.proofs.Lent.{same_place, answered}
use Rattle.zone_c.proofs.lampholly_list_search.Goals as goal

pub returns : goal.returns
returns c =
    let s = c.args in
    answered (ListSearched s.table.now s.list.now s.samples.now) (same_place (search rules) (search rules))
    c.list_search.ensures c.of_searched.ensures
