use Prim.Native.Nat.{max, min}
use native.Mathlib.Omega.{arith}
use mathlib.Core.Path.{◌∙◌, ap}
use Rattle.calm.proofs.Rects.{narrow_over, narrow_under, narrow_right, narrow_left, narrow_near}
use Rattle.calm.proofs.narrow.Goals as goal

pub returns-then-e-v : goal.returns-then-e-v
returns-then-e-v c = rw c.max.ensures (narrow_over {e = c.args.e} c.requires.here (omega arith))

pub returns-then-v-e : goal.returns-then-v-e
returns-then-v-e c = rw c.min.ensures (narrow_under {e = c.args.e} c.requires.here (omega arith))

pub returns-then-e-x : goal.returns-then-e-x
returns-then-e-x c = narrow_right {e = c.args.e} c.requires.here (omega arith)

pub returns-then-x-e : goal.returns-then-x-e
returns-then-x-e c = rw c.min-then-x-e.ensures (narrow_left {e = c.args.e} c.requires.here (omega arith))

pub returns : goal.returns
returns c =
    let e = c.args.e in
    let r = c.args.r in
    let until = c.min-3.ensures ∙ ap (min r.until) c.min-2.ensures in
    let floor = c.max-3.ensures ∙ ap (max r.floor) (c.max-2.ensures ∙ ap (max e.codes.lo) c.saturating_sub.ensures) in
    let roof = c.min-5.ensures ∙ ap (min r.roof) c.min-4.ensures in
    rw (until, floor, roof) (narrow_near e c.args.x c.args.v r c.requires.here c.if-x-e.false c.if-e-x.false c.if-v-e.false c.if-e-v.false)
