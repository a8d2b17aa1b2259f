use borrow.Author.Rules.{rules}
use Rattle.table.proofs.fields.wedge_right.Goals as goal

pub returns : goal.returns
returns c = rw (c.box_right.ensures, c.slopes_right.ensures) (search rules)
