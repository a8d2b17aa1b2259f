use native.Mathlib.Omega.{arith}
use mathlib.Core.Path.{◌∙◌}
use mir.Syntax.{w32}
use Rattle.ground.proofs.Signed.{read}
use Rattle.rules.specs.ListInside.{inside_list}
use Rattle.rules.specs.ListWords.{word}
use Rattle.rules.specs.Table.{primitives}
use Rattle.laws.proofs.SoundLists.{list_sound}
use Rattle.waterfall.proofs.Newest.{none_newest, some_newest}
use Rattle.waterfall.proofs.newest_at.Goals as goal

pub bounds-list-5 : goal.bounds-list-5
bounds-list-5 c = omega (arith, (list_sound c.args.list.now c.requires.accepted.list_right).long)

pub bounds-list-6 : goal.bounds-list-6
bounds-list-6 c = omega (arith, (list_sound c.args.list.now c.requires.accepted.list_right).long)

pub overflow_add-to : goal.overflow_add-to
overflow_add-to c = record { fits = omega (arith, (list_sound c.args.list.now c.requires.accepted.list_right).header.z.hi) }

pub highest_inside-past-requires : goal.highest_inside-past-requires
highest_inside-past-requires c =
    let frames = (list_sound c.args.list.now c.requires.accepted.list_right).header.z in record {
      ready = c.requires.accepted;
      p_value = c.requires.p_value;
      from_le_to = (omega (arith, frames.rise, frames.hi), omega (arith, frames.hi));
    }

pub returns-then-past-from : goal.returns-then-past-from
returns-then-past-from c =
    let list = c.args.list.now in
    let p = c.args.p in
    let frames = (list_sound list c.requires.accepted.list_right).header.z in
    none_newest (inside_list (primitives c.args.table.now) list) p.x p.y (word list 5) (word list 6) frames.rise c.highest_inside-past.ensures c.if-past-from.true

pub lower-requires : goal.lower-requires
lower-requires c = omega (arith, c.highest_inside-past.ensures.up, (list_sound c.args.list.now c.requires.accepted.list_right).header.z.hi)

pub returns : goal.returns
returns c =
    let list = c.args.list.now in
    let p = c.args.p in
    let frames = (list_sound list c.requires.accepted.list_right).header.z in
    read w32 c.lower.type_inv c.lower.ensures
    ∙ some_newest (inside_list (primitives c.args.table.now) list) p.x p.y (word list 5) (word list 6) frames.rise c.highest_inside-past.ensures c.if-past-from.false
