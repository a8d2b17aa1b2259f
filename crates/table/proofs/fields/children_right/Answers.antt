use mathlib.Core.Bool.{◌&&◌}
use mathlib.Core.Path.{ap, ◌∙◌}
use mir.Syntax.{w32}
use Rattle.ground.proofs.Signed.{read}
use Rattle.rules.specs.Fields.{is_earlier}
use Rattle.table.proofs.fields.children_right.Goals as goal

pub returns-then-is_primitive : goal.returns-then-is_primitive
returns-then-is_primitive c = rw (← c.is_primitive.ensures, c.if-is_primitive.true)

pub returns : goal.returns
returns c =
    let at_word = c.before.before.before in
    let else1 = at_word.before in
    let at_is_primitive = else1.before in
    let s = at_is_primitive.before in
    let left = c.is_earlier.ensures ∙ ap (is_earlier s.args.row) (read w32 at_word.word.type_inv at_word.word.ensures) in
    let right = c.is_earlier-2.ensures ∙ ap (is_earlier s.args.row) (read w32 c.word-2.type_inv c.word-2.ensures) in
    rw (← at_is_primitive.is_primitive.ensures, else1.if-is_primitive.false) (λ i. left i && right i)
