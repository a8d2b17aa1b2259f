use Prim.Native.Nat.{ℕ, ◌*◌, ◌≤◌}
use native.Mathlib.Omega.{arith}
use mathlib.Core.Bool.{true}
use mathlib.Core.List.{List, flat_map}
use mathlib.Core.Path.{◌≡◌, refl, sym, ap, ◌∙◌}
use lib.IntN.{ℤ, pos, ◌-ℤ◌, +ℤ_idr}
use lib.Seq.{sets}
use mir.Syntax.{w32}
use mir.Val.{SFits, to_z, of_z}
use mir.ValLaws.{to_z-of_z}
use Rattle.ground.specs.Lists.{from}
use Rattle.ground.proofs.Num.{Num, known, unsigned, sub_num}
use Rattle.ground.proofs.Pieces.{made_length}
use Rattle.ground.proofs.Writes.{piece_more}
use Rattle.rules.specs.ListInside.{inside_list}
use Rattle.rules.specs.ListWords.{list_window}
use Rattle.rules.specs.Ranges.{within, codes}
use Rattle.rules.specs.Table.{primitives}
use Rattle.laws.specs.Drawing.{words_from}
use Rattle.laws.proofs.Spans.{even_span}
use Rattle.waterfall.proofs.put_rows.Goals as goal

-- of a picture's codes that are in range, 32 bits hold the one of row j
code_is : (yhi : ℤ) (j : ℕ) → SFits w32 yhi → within codes (yhi -ℤ pos 0) ≡ true → j ≤ 128 → to_z w32 (of_z w32 (to_z w32 (of_z w32 yhi) -ℤ to_z w32 j)) ≡ yhi -ℤ pos j
code_is yhi j f h few =
    let first : within codes yhi ≡ true = rw (+ℤ_idr yhi) at h in
    let top : Num w32 (of_z w32 yhi) yhi 32768 = known f (even_span 32767 yhi first) in
    let step : Num w32 j (pos j) 128 = unsigned few tt in
    (sub_num top step tt).reads

pub loop-j-init : goal.loop-j-init
unfolding from flat_map
loop-j-init c = refl

pub loop-j-preserved : goal.loop-j-preserved
loop-j-preserved c =
    let a = c.args in
    let j = c.loop-j.j in
    let row_at : ℤ → List ℤ = λ y. words_from (inside_list (primitives a.table.now) a.list.now) (list_window a.list.now).z (to_z w32 (of_z w32 a.xlo)) y a.width in
    let row : ℕ → List ℤ = λ n. row_at (to_z w32 (of_z w32 a.yhi) -ℤ pos n) in
    let few : j ≤ 128 = omega (arith, c.loop-j-test.true, c.requires.width_le_most_side.1.0) in
    let is = code_is a.yhi j c.ranges.yhi (c.requires.codes_in_range 0 (omega (arith, c.loop-j-test.true))) few in
    let given = is ∙ ap (λ (y : ℤ). y -ℤ pos j) (sym (to_z-of_z w32 a.yhi c.ranges.yhi)) in
    c.put_row.ensures ∙ (λ i. sets (c.loop-j.invariant i) (j * a.width) (row_at (given i)))
    ∙ piece_more row a.width (λ n. made_length _ a.width) a.picture.now j
