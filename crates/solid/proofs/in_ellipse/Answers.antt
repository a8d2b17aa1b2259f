-- What is past the rim is the nearness less the rim, so that it is at most 0 where the nearness is at most the rim.
use mathlib.Core.Path.{ap, ◌∙◌}
use lib.IntN.{ℤ, pos, ◌+ℤ◌, ◌-ℤ◌, ◌*ℤ◌, +ℤ_idl}
use lib.Signed.{le_z}
use mir.Syntax.{w64}
use Rattle.ground.proofs.Differences.{le_back}
use Rattle.ground.proofs.Signed.{read}
use Rattle.rules.specs.Inside.{square}
use Rattle.solid.proofs.in_ellipse.Goals as goal

pub returns : goal.returns
returns c =
    let d = c.args.d in
    let p = c.args.p in
    let near : ℤ = square d.ry *ℤ square (p.x -ℤ d.cx) +ℤ square d.rx *ℤ square (p.y -ℤ d.cy) in
    let rim : ℤ = square d.rx *ℤ square d.ry in
    ap (λ (z : ℤ). le_z z (pos 0)) (read w64 c.past_ellipse.type_inv c.past_ellipse.ensures.value) ∙ le_back near rim (pos 0) ∙ ap (le_z near) (+ℤ_idl rim)
