-- A drum's radii are below 2 ^ 13 and its centre below 2 ^ 16, so that its ends are exact in 32 bits.
use mathlib.Core.Bool.{true}
use mathlib.Core.Path.{◌≡◌, sym, ap, ◌∙◌}
use borrow.Author.Rules.{rules}
use mir.Syntax.{w32}
use mir.ValLaws.{to_z-of_z}
use Rattle.ground.proofs.Num.{add_fits, add_num, sub_fits, sub_num}
use Rattle.rules.specs.declared.DrumShape.{DrumShape}
use Rattle.rules.specs.declared.Primitive.{Primitive}
use Rattle.rules.specs.declared.Primitive.TheVariants as primitive
use Rattle.rules.specs.Fields.{drum_right}
use Rattle.rules.specs.Products.{box_of}
use Rattle.laws.specs.Sound.{solid_right}
use Rattle.solid.proofs.Numbers.{cx_num, cy_num, rx_num, ry_num}
use Rattle.solid.proofs.box_of.Goals as goal

right : {s : Primitive} (d : DrumShape) → s ≡ primitive.Drum d → solid_right s ≡ true → drum_right d ≡ true
right d is h = ap solid_right (sym is) ∙ h

pub overflow_sub-result : goal.overflow_sub-result
overflow_sub-result c =
    let h = right c.in-Drum.d c.in-Drum.is c.requires in
    sub_fits (cx_num c.in-Drum.d h) (rx_num c.in-Drum.d h) tt

pub overflow_add-result : goal.overflow_add-result
overflow_add-result c =
    let h = right c.in-Drum.d c.in-Drum.is c.requires in
    add_fits (cx_num c.in-Drum.d h) (rx_num c.in-Drum.d h) tt

pub overflow_sub-result-in-Drum : goal.overflow_sub-result-in-Drum
overflow_sub-result-in-Drum c =
    let h = right c.in-Drum.d c.in-Drum.is c.requires in
    sub_fits (cy_num c.in-Drum.d h) (ry_num c.in-Drum.d h) tt

pub overflow_add-result-in-Drum : goal.overflow_add-result-in-Drum
overflow_add-result-in-Drum c =
    let h = right c.in-Drum.d c.in-Drum.is c.requires in
    add_fits (cy_num c.in-Drum.d h) (ry_num c.in-Drum.d h) tt

pub returns-in-Drum : goal.returns-in-Drum
returns-in-Drum c =
    let d = c.in-Drum.d in
    let h = right d c.in-Drum.is c.requires in
    let left = sub_num (cx_num d h) (rx_num d h) tt in
    let most = add_num (cx_num d h) (rx_num d h) tt in
    let low = sub_num (cy_num d h) (ry_num d h) tt in
    let high = add_num (cy_num d h) (ry_num d h) tt in
    (λ i. record {
      x = record { lo = left.reads i; hi = most.reads i };
      y = record { lo = low.reads i; hi = high.reads i };
      z = record { lo = to_z-of_z w32 d.zlo (search rules) i; hi = to_z-of_z w32 d.zhi (search rules) i };
    })
    ∙ ap box_of (sym c.in-Drum.is)
