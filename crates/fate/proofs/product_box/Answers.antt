use Prim.Native.Nat.{ℕ}
use native.Mathlib.Omega.{arith}
use mathlib.Core.List.{flat_map}
use mathlib.Core.Path.{◌≡◌, sym, ap, ◌∙◌}
use Rattle.ground.specs.Bits.{selected}
use Rattle.ground.specs.Lists.{from}
use Rattle.rules.specs.Inside.{bounds}
use Rattle.rules.specs.Table.{primitives_before}
use Rattle.fate.specs.Fates.{cut_by}
use Rattle.fate.proofs.product_box.Goals as goal

pub returns : goal.returns
unfolding from flat_map selected
returns c =
    let l = c.loop-row in
    let done : l.row ≡ 0 = omega arith in
    sym (ap (λ (n : ℕ). cut_by c.args.c (primitives_before c.args.table.now n) (bounds l.b)) done)
    ∙ l.invariant
    ∙ λ i. cut_by c.args.c (primitives_before c.args.table.now (c.row_count-row.ensures i)) (c.from-b.ensures i)
