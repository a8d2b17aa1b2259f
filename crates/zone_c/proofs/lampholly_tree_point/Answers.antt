use borrow.Author.Rules.{rules}
use Rattle.rules.specs.TreeCalls.{TreeLocated}
use Rattle.zone_c.proofs.Lent.{same_point, answered}
use Rattle.zone_c.proofs.lampholly_tree_point.Goals as goal

pub returns : goal.returns
returns c =
    let s = c.args in
    answered (TreeLocated s.table.now) (same_point (search rules) (search rules) (search rules))
    c.tree_point.ensures c.tell.ensures
