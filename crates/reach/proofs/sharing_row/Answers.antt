use mathlib.Core.List.{cons≢nil}
use mathlib.Core.Option.{some}
use mathlib.Core.Path.{◌≡◌, sym, ap, ◌∙◌}
use Rattle.rules.specs.declared.Primitive.{Primitive}
use Rattle.rules.specs.declared.Row.TheVariants.{Solid}
use Rattle.rules.specs.Products.{box_of}
use Rattle.rules.specs.Table.{solid_of, primitives}
use Rattle.laws.specs.Reach.{sharing}
use Rattle.reach.proofs.sharing_row.Goals as goal

same : {p s : Primitive} → some (Solid p) ≡ some (Solid s) → p ≡ s
same e = cc

pub box_of-requires : goal.box_of-requires
box_of-requires c = c.in-Some.ensures.1

pub returns-in-Some : goal.returns-in-Some
returns-in-Some c = λ s e.
    c.sharing_with.ensures ∙ ap (sharing (primitives c.args.table.now)) (c.box_of.ensures ∙ ap box_of (same (sym c.in-Some.ensures.0 ∙ e)))

-- where there is no primitive nothing is asked
pub returns-in-None : goal.returns-in-None
returns-in-None c = λ s e. absurd (cons≢nil (sym (ap solid_of e) ∙ c.in-None.ensures))
