use mathlib.Core.Path.{sym, ap, ◌∙◌}
use Rattle.says.specs.Asking.{said_by}
use Rattle.says.proofs.Asking.{by_set, ready_sound}
use Rattle.sweep.proofs.inside_at.Goals as goal

pub hold_at-h-requires : goal.hold_at-h-requires
hold_at-h-requires c = let s = c.before.before in record { sound = ready_sound s.args.asked s.args.table.now s.args.list.now s.requires.ready; p_value = s.requires.p_value }

pub returns : goal.returns
returns c =
    let d = c.before.before.before in
    let s = d.before.before in
    let said = said_by s.args.asked s.args.table.now s.args.list.now in
    c.says.ensures ∙ ap said d.hold_at-h.ensures.found.set ∙ sym (by_set s.args.asked s.args.table.now s.args.list.now s.args.p s.requires.ready)
