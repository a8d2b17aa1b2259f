-- A row read as a node of the tree of numbers. Assumes nothing.
use Rattle.flatten.proofs.Laws.{at_solid, at_union, at_inter, at_diff}
use Rattle.flatten.proofs.node_of.Goals as goal

pub returns-in-Solid : goal.returns-in-Solid
returns-in-Solid c = at_solid c.requires.sound c.requires.row_bound c.read_row.ensures c.in-Solid.is

pub returns-in-Union : goal.returns-in-Union
returns-in-Union c = at_union c.requires.sound c.requires.row_bound c.read_row.ensures c.in-Union.is

pub returns-in-Inter : goal.returns-in-Inter
returns-in-Inter c = at_inter c.requires.sound c.requires.row_bound c.read_row.ensures c.in-Inter.is

pub returns-in-Diff : goal.returns-in-Diff
returns-in-Diff c = at_diff c.requires.sound c.requires.row_bound c.read_row.ensures c.in-Diff.is
