use Prim.Native.Nat.{ℕ, ◌+◌, ◌≤◌}
use native.Mathlib.Omega.{arith}
use mathlib.Core.Bool.{true}
use mathlib.Core.Path.{◌≡◌, refl, sym, ap, ◌∙◌}
use lib.IntN.{ℤ, pos, ◌+ℤ◌, +ℤ_idr}
use lib.ListN.{set}
use mir.Syntax.{w32}
use mir.Val.{SFits, to_z, of_z}
use mir.ValLaws.{to_z-of_z}
use Rattle.ground.specs.Lists.{from}
use Rattle.ground.proofs.Num.{Num, known, unsigned, add_num}
use Rattle.ground.proofs.Signed.{reread, read}
use Rattle.ground.proofs.Writes.{one_more}
use Rattle.rules.specs.ListInside.{inside_list}
use Rattle.rules.specs.ListWords.{list_window}
use Rattle.rules.specs.Ranges.{within, columns, codes}
use Rattle.rules.specs.Table.{primitives}
use Rattle.rules.specs.Waterfall.{place_word}
use Rattle.laws.proofs.Spaces.{by_axis}
use Rattle.laws.proofs.Spans.{even_span}
use Rattle.waterfall.proofs.put_row.Goals as goal

-- of a row's columns that are in range, 32 bits hold column i
column_is : (xlo : ℤ) (i : ℕ) → SFits w32 xlo → within columns (xlo +ℤ pos 0) ≡ true → i ≤ 128 → to_z w32 (of_z w32 (to_z w32 (of_z w32 xlo) +ℤ to_z w32 i)) ≡ xlo +ℤ pos i
column_is xlo i f h few =
    let first : within columns xlo ≡ true = rw (+ℤ_idr xlo) at h in
    let start : Num w32 (of_z w32 xlo) xlo 32768 = known f (even_span 32767 xlo first) in
    let step : Num w32 i (pos i) 128 = unsigned few tt in
    (add_num start step tt).reads

pub loop-i-init : goal.loop-i-init
unfolding from
loop-i-init c = refl

pub newest_at-requires-clause-p_value : goal.newest_at-requires-clause-p_value
newest_at-requires-clause-p_value c =
    let a = c.args in
    let i = c.loop-i.i in
    let few : i ≤ 128 = omega (arith, c.loop-i-test.true, c.requires.width_le_most_side.0) in
    let is = column_is a.xlo i c.ranges.xlo (c.requires.columns_in_range 0 (omega (arith, c.loop-i-test.true))) few in
    by_axis (ap (within columns) is ∙ c.requires.columns_in_range i c.loop-i-test.true) (reread w32 (within codes) c.ranges.y c.requires.y_value) refl

pub loop-i-preserved : goal.loop-i-preserved
loop-i-preserved c =
    let a = c.args in
    let i = c.loop-i.i in
    let at_column : ℤ → ℤ = λ x. place_word (inside_list (primitives a.table.now) a.list.now) (list_window a.list.now).z x (to_z w32 (of_z w32 a.y)) in
    let f : ℕ → ℤ = λ n. at_column (to_z w32 (of_z w32 a.xlo) +ℤ pos n) in
    let few : i ≤ 128 = omega (arith, c.loop-i-test.true, c.requires.width_le_most_side.0) in
    let is = column_is a.xlo i c.ranges.xlo (c.requires.columns_in_range 0 (omega (arith, c.loop-i-test.true))) few in
    let given = is ∙ ap (λ (x : ℤ). x +ℤ pos i) (sym (to_z-of_z w32 a.xlo c.ranges.xlo)) in
    let word : to_z w32 (of_z w32 c.newest_at.result) ≡ f i = read w32 c.newest_at.type_inv c.newest_at.ensures ∙ ap at_column given in
    (λ j. set (c.loop-i.invariant j) (a.at + i) (word j)) ∙ one_more f a.picture.now a.at i
