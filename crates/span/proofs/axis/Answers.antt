use borrow.Author.Rules.{rules}
use mathlib.Core.Path.{ap, ◌∙◌}
use mir.Syntax.{w32}
use mir.Val.{SFits}
use mir.ValLaws.{to_z-of_z}
use Rattle.rules.specs.declared.Axis.TheVariants.{Frame}
use Rattle.rules.specs.ListWords.{raised}
use Rattle.span.proofs.Along.{axis_along}
use Rattle.span.proofs.axis.Goals as goal

pub returns : goal.returns
returns c =
    let r = c.args.r in
    let f : SFits w32 r.lo = search rules in
    let g : SFits w32 r.hi = search rules in
    let lo = c.place_of.ensures.value ∙ ap (raised Frame) (to_z-of_z w32 r.lo f) in
    let hi = c.place_of-2.ensures.value ∙ ap (raised Frame) (to_z-of_z w32 r.hi g) in
    record { ends = λ i. record { lo = lo i; hi = hi i }; values = rw (lo, hi) (axis_along r.lo r.hi c.requires.0 c.requires.1) }
