use mathlib.Core.Bool.{true, not, ◌&&◌}
use mathlib.Core.Path.{◌≡◌, sym, ap, ◌∙◌}
use borrow.Author.Rules.{rules}
use lib.IntN.{ℤ, pos}
use mir.Syntax.{w32, w64}
use mir.Val.{SFits}
use mir.ValLaws.{to_z-of_z}
use Rattle.ground.proofs.Branches.{and_yes, and_no}
use Rattle.ground.proofs.Signed.{reread, zero_read}
use Rattle.ground.specs.Tests.{eq_z}
use Rattle.rules.specs.Fields.{corners_right, ends_right}
use Rattle.rules.specs.Ranges.{within, columns, codes, frames}
use Rattle.rules.specs.Sides.{side, twice_area}
use Rattle.laws.proofs.Ranges.{corner_x_in, corner_y_in, first_right, second_right, third_right}
use Rattle.table.proofs.fields.triangle_right.Lts as lts
use Rattle.table.proofs.fields.triangle_right.Tie as tie
use Rattle.table.proofs.fields.triangle_right.Reads as reads
use Rattle.table.proofs.fields.triangle_right.Goals as goal

abbrev Start : Type 0
Start = lts.Start tie.the-claims reads.Pre reads.Post tie.handed_clauses

abbrev After-corner_right3 : Type 0
After-corner_right3 = lts.After-corner_right3 tie.the-claims reads.Pre reads.Post tie.handed_clauses

abbrev Else1 : Type 0
Else1 = lts.Else1 tie.the-claims reads.Pre reads.Post tie.handed_clauses

record Fits (s : Start) : Type 0 where
  x : SFits w32 s.args.t.third.x
  y : SFits w32 s.args.t.third.y
  zlo : SFits w32 s.args.t.zlo
  zhi : SFits w32 s.args.t.zhi

fits : (s : Start) → Fits s
fits s = record { x = search rules; y = search rules; zlo = search rules; zhi = search rules }

-- the test of the corners, and the start
abbrev start : After-corner_right3 → Start
start c = let at_corner_right = c.before.before in at_corner_right.before.before.before.before

in_range : (c : After-corner_right3) → (c.corner_right.result && (c.corner_right-2.result && c.corner_right-3.result)) ≡ corners_right (start c).args.t
in_range c = λ i. c.corner_right.ensures i && (c.corner_right-2.ensures i && c.corner_right-3.ensures i)

pub returns-then-not-in_range : goal.returns-then-not-in_range
returns-then-not-in_range c = and_no (corners_right (start c.before).args.t) _ (sym (in_range c.before) ∙ c.if-not-in_range.true)

-- the corners are in range
right : (e : Else1) → corners_right (start e.before).args.t ≡ true
right e = sym (in_range e.before) ∙ e.if-not-in_range.false

pub side-requires : goal.side-requires
side-requires c =
    let e = c.before.before.before.before.before.before in
    let s = start e.before in
    let t = s.args.t in
    let third = third_right t (right e) in record {
      a_value = (first_right t (right e), second_right t (right e));
      x_value = (reread w32 (within columns) (fits s).x (corner_x_in t.third third), reread w32 (within codes) (fits s).y (corner_y_in t.third third));
    }

pub returns : goal.returns
returns c =
    let e = c.before.before.before.before.before.before in
    let s = start e.before in
    let t = s.args.t in
    let f = fits s in
    let ends = c.ends_right.ensures ∙ λ i. ends_right frames (to_z-of_z w32 t.zlo f.zlo i) (to_z-of_z w32 t.zhi f.zhi i) in
    let area : c.side.result ≡ twice_area t = c.side.ensures ∙ λ i. side t.first t.second (to_z-of_z w32 t.third.x f.x i) (to_z-of_z w32 t.third.y f.y i) in
    let flat = zero_read w64 {z = c.side.result} (search rules) ∙ ap (λ (z : ℤ). eq_z z (pos 0)) area in
    (λ i. ends i && not (flat i)) ∙ and_yes (corners_right t) _ (right e)
