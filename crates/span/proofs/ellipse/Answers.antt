-- The root of what is left of the inequality, over rx², is how far from the centre's place the ellipse reaches.
use Prim.Native.Nat.{ℕ, ◌*◌}
use mathlib.Core.Path.{ap, ◌∙◌}
use lib.IntN.{nat_abs}
use mir.Syntax.{w64}
use Rattle.ground.proofs.Signed.{read}
use Rattle.rules.specs.declared.Axis.TheVariants.{Frame}
use Rattle.rules.specs.ListWords.{raised}
use Rattle.laws.proofs.Ranges.{framed, cy_in, rx_in, ry_in}
use Rattle.solid.proofs.Numbers.{cy_num, rx_num, ry_num}
use Rattle.span.specs.Along.{Root, near, ellipse_left}
use Rattle.span.proofs.Round.{ellipse_near, root_fits}
use Rattle.span.proofs.ellipse.Goals as goal

pub place_of-requires : goal.place_of-requires
place_of-requires c = let d = c.args.d in let h = c.requires.d_value in rw (cy_num d h).reads (framed d.cy (cy_in d h))

pub radius-requires : goal.radius-requires
radius-requires c = let d = c.args.d in let h = c.requires.d_value in rw (ry_num d h).reads (ry_in d h)

pub root-requires-clause-room_bound : goal.root-requires-clause-room_bound
root-requires-clause-room_bound c =
    let d = c.args.d in
    let h = c.requires.d_value in
    let a = c.radius-a.ensures.value ∙ ap nat_abs (rx_num d h).reads in
    let b = c.radius.ensures.value ∙ ap nat_abs (ry_num d h).reads in
    let left = c.unsigned_abs.ensures.value ∙ ap nat_abs (read w64 c.ellipse_left-left.type_inv c.ellipse_left-left.ensures.value) in
    rw (a, b, left) (root_fits d.cx d.cy d.rx d.ry c.args.p.x (rx_in d h) c.requires.in_reach)

pub returns : goal.returns
returns c =
    let d = c.args.d in
    let p = c.args.p in
    let h = c.requires.d_value in
    let a = c.radius-a.ensures.value ∙ ap nat_abs (rx_num d h).reads in
    let left = c.unsigned_abs.ensures.value ∙ ap nat_abs (read w64 c.ellipse_left-left.type_inv c.ellipse_left-left.ensures.value) in
    let rooted : Root (nat_abs d.rx * nat_abs d.rx) (nat_abs (ellipse_left d.cx d.rx d.ry p.x)) c.root.result = rw (a, left) at c.root.ensures.root in
    let centre = c.place_of.ensures.value ∙ ap (raised Frame) (cy_num d h).reads in
    rw (c.near.ensures ∙ ap (λ (n : ℕ). near n c.root.result) centre)
    (ellipse_near d.cx d.cy d.rx d.ry p.x (rx_in d h) c.requires.in_reach (cy_in d h) rooted)
