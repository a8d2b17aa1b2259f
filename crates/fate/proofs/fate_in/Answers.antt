use mathlib.Core.Path.{sym, ap, ◌∙◌}
use lib.Bits.{bit_and}
use Rattle.rules.specs.Boxes.{share}
use Rattle.rules.specs.Products.{box_of, product_box}
use Rattle.rules.specs.Table.{primitives}
use Rattle.laws.specs.Reach.{sharing}
use Rattle.laws.proofs.Reach.{places_where_bits}
use Rattle.fate.specs.Fates.{fate_by}
use Rattle.fate.proofs.fate_in.Goals as goal

pub returns : goal.returns
returns c =
    let r = c.before.before in
    let s = r.before.before in
    let solids = primitives s.args.table.now in
    let chosen = s.args.c in
    let box = r.product_box-b.ensures in
    let cuts = ap (bit_and chosen.cuts) (r.sharing_with.ensures ∙ ap (sharing solids) box)
    ∙ sym (places_where_bits (λ p. share (box_of p) (product_box s.args.w solids chosen)) solids chosen.cuts) in
    c.by_box.ensures ∙ λ i. fate_by (box i) (record { plain = chosen.plain; cuts = cuts i })
