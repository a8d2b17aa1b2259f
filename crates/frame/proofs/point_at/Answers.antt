use native.Mathlib.Omega.{arith}
use mathlib.Core.Bool.{true}
use mathlib.Core.Path.{◌≡◌, sym, subst}
use borrow.Author.Rules.{rules}
use lib.IntN.{ℤ, pos, ◌+ℤ◌}
use mir.Syntax.{w16, w32}
use mir.Val.{SFits, to_z, of_z}
use mir.ValLaws.{to_z-of_z}
use Rattle.ground.proofs.Num.{Num, known, unsigned, cast_fits, cast_num, add_fits, add_num}
use Rattle.rules.specs.Boxes.{holds, everywhere}
use Rattle.rules.specs.Frame.{code_at, point_of}
use Rattle.rules.specs.declared.Point.{Point}
use Rattle.laws.proofs.Columns.{FrameRight, frame_right, point_in}
use Rattle.laws.proofs.Spans.{even_span}
use Rattle.frame.proofs.point_at.Lts as lts
use Rattle.frame.proofs.point_at.Tie as tie
use Rattle.frame.proofs.point_at.Reads as reads
use Rattle.frame.proofs.point_at.Goals as goal

abbrev Start : Type 0
Start = lts.Start reads.Pre reads.Post tie.handed_clauses

abbrev After-y : Type 0
After-y = lts.After-y reads.Pre reads.Post tie.handed_clauses

abbrev After-struct_told2 : Type 0
After-struct_told2 = lts.After-struct_told2 reads.Pre reads.Post tie.handed_clauses

module _ (s : Start) where
  frame : FrameRight s.args.samples.now s.args.place
  frame = frame_right s.args.samples.now s.args.place s.requires.place_value

  abbrev code : ℤ
  code = code_at s.args.samples.now s.args.k

  -- the first column, k and the sample, as the code holds them
  first : Num w32 (of_z w32 s.args.place.first) s.args.place.first 32768
  first = known (search rules) (even_span 32767 s.args.place.first frame.first_in)

  index : Num w32 s.args.k (pos s.args.k) 65536
  index = unsigned (omega (arith, s.requires.k_in_bounds, frame.not_over)) tt

sample : (c : After-y) → Num w16 (of_z w16 (code c.before)) (code c.before) 32768
sample c = let f : SFits w16 (code c.before) = search rules in known f f.sfits

pub overflow_cast-y : goal.overflow_cast-y
overflow_cast-y c = cast_fits (sample c) tt

pub overflow_cast-x : goal.overflow_cast-x
overflow_cast-x c = record { sfits = omega (arith, c.requires.k_in_bounds, (frame c.before).not_over) }

pub overflow_add-x : goal.overflow_add-x
overflow_add-x c = let s = c.before.before.before.before in add_fits (first s) (index s) tt

-- the point that is made is the sample's
made : (c : After-struct_told2) → let s = c.before.before.before.before in
    ◌≡◌ {A = Point} (record {
      x = to_z w32 (of_z w32 (to_z w32 (of_z w32 s.args.place.first) +ℤ to_z w32 s.args.k));
      y = to_z w32 (of_z w32 (to_z w16 (of_z w16 (code s))));
      z = to_z w32 (of_z w32 s.args.place.frame);
    }) (point_of s.args.place s.args.k (code s))
made c =
    let s = c.before.before.before.before in
    let frame_fits : SFits w32 s.args.place.frame = search rules in
    let y = cast_num {w = w32} (sample c.before.before.before) tt in
    λ i. record { x = (add_num (first s) (index s) tt).reads i; y = y.reads i; z = to_z-of_z w32 s.args.place.frame frame_fits i }

pub returns : goal.returns
returns c =
    let s = c.before.before.before.before in
    let code_fits : SFits w16 (code s) = search rules in record {
      value = made c;
      ranged = subst (λ (p : Point). holds everywhere p ≡ true) (sym (made c)) (point_in (frame s) s.args.k s.requires.k_in_bounds code_fits.sfits);
    }
