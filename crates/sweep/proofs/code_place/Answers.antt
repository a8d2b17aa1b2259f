use mathlib.Core.Bool.{true}
use mathlib.Core.Path.{◌≡◌, sym, ap, ◌∙◌}
use borrow.Author.Rules.{rules}
use mir.Syntax.{w32}
use mir.Val.{SFits}
use mir.ValLaws.{to_z-of_z}
use Rattle.ground.proofs.Signed.{reread}
use Rattle.rules.specs.declared.Point.{Point}
use Rattle.rules.specs.declared.Axis.TheVariants.{Frame}
use Rattle.rules.specs.ListWords.{raised}
use Rattle.rules.specs.Ranges.{within, columns, frames}
use Rattle.laws.proofs.Ranges.{framed, y_in}
use Rattle.sweep.proofs.code_place.Lts as lts
use Rattle.sweep.proofs.code_place.Tie as tie
use Rattle.sweep.proofs.code_place.Reads as reads
use Rattle.sweep.proofs.code_place.Goals as goal

abbrev After-point_at : Type 0
After-point_at = lts.After-point_at tie.the-claims reads.Pre reads.Post tie.handed_clauses

fits : (c : After-point_at) → SFits w32 c.point_at-p.result.y
fits c = search rules

code_in : (c : After-point_at) → within columns c.point_at-p.result.y ≡ true
code_in c = y_in c.point_at-p.result c.point_at-p.ensures.ranged

pub place_of-requires : goal.place_of-requires
place_of-requires c = reread w32 (within frames) (fits c.before.before) (framed c.point_at-p.result.y (code_in c.before.before))

pub returns : goal.returns
returns c =
    let d = c.before.before in
    let is = d.point_at-p.ensures.value in record {
      value = c.place_of.ensures.value ∙ ap (raised Frame) (to_z-of_z w32 d.point_at-p.result.y (fits d)) ∙ ap (λ (p : Point). raised Frame p.y) is;
      ranged = ap (λ (p : Point). within columns p.y) (sym is) ∙ code_in d;
    }
