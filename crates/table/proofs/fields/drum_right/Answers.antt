use borrow.Author.Rules.{rules}
use Rattle.table.proofs.fields.drum_right.Goals as goal

pub returns : goal.returns
returns c = rw (c.reach_right.ensures, c.reach_right-2.ensures, c.ends_right.ensures) (search rules)
