use Prim.Native.Nat.{ℕ}
use mathlib.Core.Bool.{Bool}
use mathlib.Core.Path.{ap, ◌∙◌}
use Rattle.says.specs.Asking.{said_by, inside_by}
use Rattle.says.proofs.Asking.{by_set, ready_sound}
use Rattle.span.specs.Along.{point_at}
use Rattle.along.proofs.Walks.{highest_as}
use Rattle.along.proofs.highest_inside.Goals as goal

pub line_up-requires-clause-sound : goal.line_up-requires-clause-sound
line_up-requires-clause-sound c = ready_sound c.args.asked c.args.table.now c.args.list.now c.requires.ready

pub returns : goal.returns
returns c =
    let asked = c.args.asked in
    let t = c.args.table.now in
    let list = c.args.list.now in
    let test : ℕ → Bool = λ v. inside_by asked t list (point_at c.args.line c.args.p v) in
    let walked = rw c.as_slice.ensures at c.highest.ensures in
    highest_as {f = test} (λ v a b. by_set asked t list (point_at c.args.line c.args.p v) c.requires.ready ∙ ap (said_by asked t list) (c.line_up.ensures.each v a b)) walked
