use Prim.Native.Nat.{ℕ, ◌+◌}
use mathlib.Core.Bool.{Bool, true}
use mathlib.Core.Path.{◌≡◌, sym, ap, ◌∙◌}
use Rattle.ground.specs.Lists.{any_of, rest}
use Rattle.rules.specs.declared.Axis.TheVariants.{Frame}
use Rattle.rules.specs.declared.Point.{Point}
use Rattle.rules.specs.Frame.{code_at, point_of}
use Rattle.rules.specs.ListWords.{raised}
use Rattle.rules.specs.Ranges.{within, columns}
use Rattle.laws.proofs.Ranges.{y_in}
use Rattle.says.specs.Asking.{inside_by}
use Rattle.span.specs.Along.{code_point}
use Rattle.sweep.specs.Sweeps.{fill_places}
use Rattle.sweep.proofs.Filled.{sample_places}
use Rattle.sweep.proofs.look_at.Goals as goal

pub returns-clause-told : goal.returns-clause-told
returns-clause-told c =
    let samples = c.args.samples.now in
    let place = c.args.place in
    let k = c.args.k in
    let is_inside = inside_by c.args.asked c.args.table.now c.args.list.now in
    let at = c.point_at in
    let B = c.requires.preceded in
    let own : within columns (code_at samples k) ≡ true = ap (λ (p : Point). within columns p.y) (sym at.ensures.value) ∙ y_in at.result at.ensures.ranged in
    let held : Point → ℕ → Bool = λ p before. let r = fill_places before (raised Frame p.y) in any_of (λ v. is_inside (code_point p v)) (rest r.lo (r.hi + 1)) in
    c.look.ensures.told ∙ ap (λ (p : Point). held p c.args.before) at.ensures.value ∙ ap (held (point_of place k (code_at samples k))) B.is
    ∙ sym (sample_places is_inside samples place k B.ranged own)
