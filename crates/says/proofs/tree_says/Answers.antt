use Prim.Native.Nat.{ℕ, ◌<◌, ◌-◌}
use native.Mathlib.Nat.{div-one}
use native.Mathlib.Omega.{arith}
use mathlib.Core.Bool.{false}
use mathlib.Core.List.{flat_map}
use mathlib.Core.Path.{refl, sym, ap, ◌∙◌}
use lib.ListN.{get_or}
use Rattle.ground.specs.Lists.{from}
use Rattle.rules.specs.Table.{row_count}
use Rattle.says.proofs.tree_says.Goals as goal

pub loop-row-init : goal.loop-row-init
unfolding from flat_map
loop-row-init c = record { past = sym (div-one c.args.set); size = refl; each = λ r l. absurd (omega (arith, l)) }

pub loop-row-preserved : goal.loop-row-preserved
loop-row-preserved c = c.says_row-left.ensures c.args.set c.loop-row.invariant

pub overflow_sub-result : goal.overflow_sub-result
overflow_sub-result c = omega (arith, c.row_count-rows.ensures, c.requires.some_row)

pub bounds-answers-rows : goal.bounds-answers-rows
bounds-answers-rows c = omega (arith, c.row_count-rows.ensures, c.requires.not_over)

pub returns : goal.returns
returns c =
    let l = c.loop-row in
    let t = c.args.table.now in
    let last : row_count t - 1 < l.row = omega (arith, c.requires.some_row, c.row_count-rows.ensures, c.loop-row-test.false) in
    ap (λ (rows : ℕ). get_or l.answers (rows - 1) false) c.row_count-rows.ensures ∙ l.invariant.each (row_count t - 1) last
