use borrow.Author.Rules.{rules}
use Rattle.table.proofs.fields.box_right.Goals as goal

pub returns : goal.returns
returns c =
    rw (c.ends_right.ensures, c.ends_right-2.ensures, c.ends_right-3.ensures) (search rules)
