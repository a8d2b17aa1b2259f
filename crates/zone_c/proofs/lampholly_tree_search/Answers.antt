use borrow.Author.Rules.{rules}
use Rattle.rules.specs.TreeCalls.{TreeSearched}
use Rattle.zone_c.proofs.Lent.{same_place, answered}
use Rattle.zone_c.proofs.lampholly_tree_search.Goals as goal

pub returns : goal.returns
returns c =
    let s = c.args in
    answered (TreeSearched s.table.now s.samples.now) (same_place (search rules) (search rules))
    c.tree_search.ensures c.of_searched.ensures
