use Prim.Native.Nat.{◌*◌}
use native.Mathlib.Nat.{mul_comm}
use native.Mathlib.Omega.{arith}
use mathlib.Core.Path.{◌≡◌, sym, ap, ap₂, ◌∙◌}
use borrow.Author.Rules.{rules}
use lib.IntN.{ℤ, pos, ◌+ℤ◌, ◌-ℤ◌}
use lib.Seq.{sets}
use mir.Syntax.{w32}
use mir.Val.{SFits, to_z, of_z}
use mir.ValLaws.{to_z-of_z}
use Prim.Native.Nat.{ℕ}
use Rattle.rules.specs.ListCalls.{waterfall}
use Rattle.rules.specs.ListInside.{inside_list}
use Rattle.rules.specs.ListWords.{list_window}
use Rattle.rules.specs.Ranges.{within, size_of, columns, codes}
use Rattle.rules.specs.Table.{primitives}
use Rattle.rules.specs.Waterfall.{columns_of, codes_of}
use Rattle.laws.specs.Drawing.{rows_from}
use Rattle.laws.proofs.Pictures.{picture_rows}
use Rattle.laws.proofs.SoundLists.{list_sound}
use Rattle.waterfall.proofs.Calls.{column_in, code_in}
use Rattle.waterfall.proofs.put_picture.Goals as goal

-- a size is that of the side as it was passed
sized : {n : ℕ} (lo hi : ℤ) → SFits w32 lo → SFits w32 hi → n ≡ size_of (record { lo = to_z w32 (of_z w32 lo); hi = to_z w32 (of_z w32 hi) }) → n ≡ size_of (record { lo = lo; hi = hi })
sized lo hi f g e = e ∙ (λ i. size_of (record { lo = to_z-of_z w32 lo f i; hi = to_z-of_z w32 hi g i }))

pub put_rows-requires : goal.put_rows-requires
put_rows-requires c =
    let q = c.args.q in
    let header = (list_sound c.args.list.now c.requires.accepted.list_right).header in
    let f : SFits w32 q.xlo = search rules in
    let g : SFits w32 q.yhi = search rules in
    let width = sized q.xlo q.xhi f (search rules) c.size-width.ensures.value in
    let height = sized q.ylo q.yhi (search rules) g c.size-height.ensures.value in
    let room = ap₂ ◌*◌ height width ∙ mul_comm (size_of (codes_of q)) (size_of (columns_of q)) in record {
      accepted = c.requires.accepted;
      columns_in_range = λ i l. ap (λ (x : ℤ). within columns (x +ℤ pos i)) (to_z-of_z w32 q.xlo f) ∙ column_in header c.requires.drawable i (omega (arith, width));
      codes_in_range = λ j l. ap (λ (y : ℤ). within codes (y -ℤ pos j)) (to_z-of_z w32 q.yhi g) ∙ code_in header c.requires.drawable j (omega (arith, height));
      width_le_most_side = (c.size-width.ensures.bounded, (c.size-height.ensures.bounded, omega (arith, room, c.requires.q_in_bounds)));
    }

pub returns : goal.returns
unfolding waterfall
returns c =
    let q = c.args.q in
    let list = c.args.list.now in
    let is_inside = inside_list (primitives c.args.table.now) list in
    let f : SFits w32 q.xlo = search rules in
    let g : SFits w32 q.yhi = search rules in
    let width = sized q.xlo q.xhi f (search rules) c.size-width.ensures.value in
    let height = sized q.ylo q.yhi (search rules) g c.size-height.ensures.value in
    c.put_rows.ensures
    ∙ (λ i. sets c.args.picture.now 0 (rows_from is_inside (list_window list).z (to_z-of_z w32 q.xlo f i) (to_z-of_z w32 q.yhi g i) (width i) (height i)))
    ∙ ap (sets c.args.picture.now 0) (sym (picture_rows is_inside (list_window list).z q))
