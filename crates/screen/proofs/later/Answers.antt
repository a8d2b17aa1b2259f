use mathlib.Core.Bool.{false}
use mathlib.Core.Path.{◌≡◌, refl, sym, ap, subst, ◌∙◌}
use native.Mathlib.Omega.{arith}
use borrow.Author.Rules.{rules}
use lib.IntN.{ℤ, pos, ◌+ℤ◌, +ℤ_idr}
use lib.Signed.{lt_z}
use mir.Syntax.{w32}
use mir.Val.{SFits, to_z, of_z}
use mir.ValLaws.{to_z-of_z, to_z_pos}
use Rattle.rules.specs.declared.Axis.TheVariants.{Frame}
use Rattle.rules.specs.Ranges.{within, greatest, frames}
use Rattle.screen.specs.Places.{same, beyond}
use Rattle.screen.proofs.Places.{past, sum_fits}
use Rattle.screen.proofs.later.Lts as lts
use Rattle.screen.proofs.later.Reads as reads
use Rattle.screen.proofs.later.Goals as goal

abbrev Start : Type 0
Start = lts.Start reads.Pre reads.Post

module _ (s : Start) where
  abbrev number : ℤ
  number = s.args.place.frame

  abbrev top : ℤ
  top = pos (greatest Frame)

  -- the number as the code holds it
  held : to_z w32 (of_z w32 number) ≡ number
  held = let f : SFits w32 number = search rules in to_z-of_z w32 number f

  sum : to_z w32 (of_z w32 number) +ℤ to_z w32 s.args.j ≡ number +ℤ pos s.args.j
  sum = λ i. held i +ℤ to_z_pos w32 s.args.j (omega (arith, s.requires)) i

  -- the number is not past the range
  holds : lt_z top (to_z w32 (of_z w32 number)) ≡ false → SFits w32 (number +ℤ pos s.args.j)
  holds left =
      let f : SFits w32 number = search rules in
      sum_fits number s.args.j f (ap (lt_z top) (sym held) ∙ left) s.requires

pub returns-then-place-gt-GREATEST_FRAME : goal.returns-then-place-gt-GREATEST_FRAME
returns-then-place-gt-GREATEST_FRAME c =
    let s = c.before.before.before in
    let over = ap (lt_z (top s)) (sym (held s)) ∙ c.if-place-gt-GREATEST_FRAME.true in
    beyond refl (ap (within frames) (sym (+ℤ_idr (number s))) ∙ past (number s) 0 over) (past (number s) s.args.j over)

pub overflow_add-result : goal.overflow_add-result
overflow_add-result c =
    let else1 = c.before.before.before in
    let s = else1.before.before.before in
    subst (SFits w32) (sym (sum s)) (holds s else1.if-place-gt-GREATEST_FRAME.false)

pub returns : goal.returns
returns c =
    let else1 = c.before.before.before in
    let s = else1.before.before.before in
    let first_fits : SFits w32 s.args.place.first = search rules in
    let later = ap (λ (z : ℤ). to_z w32 (of_z w32 z)) (sum s) ∙ to_z-of_z w32 _ (holds s else1.if-place-gt-GREATEST_FRAME.false) in
    same (λ i. record { first = to_z-of_z w32 s.args.place.first first_fits i; frame = later i })
