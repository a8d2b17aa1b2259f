use Rattle.choice.proofs.Steps.{solid_in, solid_out, union_in, union_out, inter_in, inter_out, diff_in, diff_out}
use Rattle.choice.proofs.read_step.Goals as goal

pub returns-then-within : goal.returns-then-within
returns-then-within c =
    let d = c.before.before.before.before.before in
    solid_in d.requires.sound d.requires.row_bound d.read_row-reads.ensures c.in-Solid.is d.requires.numbered c.if-within.true

pub returns-then-within-2 : goal.returns-then-within-2
returns-then-within-2 c =
    let d = c.before.before in
    union_in d.requires.sound d.requires.row_bound d.read_row-reads.ensures c.in-Union.is c.if-within-2.true

pub returns-then-within-3 : goal.returns-then-within-3
returns-then-within-3 c =
    let d = c.before.before in
    inter_in d.requires.sound d.requires.row_bound d.read_row-reads.ensures c.in-Inter.is c.if-within-3.true

pub returns-then-within-4 : goal.returns-then-within-4
returns-then-within-4 c =
    let d = c.before.before in
    diff_in d.requires.sound d.requires.row_bound d.read_row-reads.ensures c.in-Diff.is c.if-within-4.true

pub returns-else-within : goal.returns-else-within
returns-else-within c =
    let d = c.before.before.before.before.before in
    solid_out d.requires.sound d.requires.row_bound d.read_row-reads.ensures c.in-Solid.is d.requires.numbered c.if-within.false

pub returns-else-within-2 : goal.returns-else-within-2
returns-else-within-2 c =
    let d = c.before.before in
    union_out d.requires.sound d.requires.row_bound d.read_row-reads.ensures c.in-Union.is c.if-within-2.false

pub returns-else-within-3 : goal.returns-else-within-3
returns-else-within-3 c =
    let d = c.before.before in
    inter_out d.requires.sound d.requires.row_bound d.read_row-reads.ensures c.in-Inter.is c.if-within-3.false

pub returns-else-within-4 : goal.returns-else-within-4
returns-else-within-4 c =
    let d = c.before.before in
    diff_out d.requires.sound d.requires.row_bound d.read_row-reads.ensures c.in-Diff.is c.if-within-4.false
