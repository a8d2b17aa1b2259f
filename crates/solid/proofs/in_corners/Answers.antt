use mathlib.Core.Bool.{true}
use mathlib.Core.Path.{◌≡◌, ◌∙◌}
use lib.IntN.{ℤ}
use mir.Syntax.{w32, w64}
use mir.Val.{to_z, of_z}
use Rattle.rules.specs.Inside.{one_sided}
use Rattle.rules.specs.Ranges.{within, columns, codes}
use Rattle.rules.specs.Sides.{side}
use Rattle.ground.proofs.Signed.{read}
use Rattle.laws.proofs.Ranges.{first_right, second_right, third_right}
use Rattle.solid.proofs.Numbers.{even}
use Rattle.solid.proofs.in_corners.Goals as goal

-- the point as it is passed on
passed : (x y : ℤ) → (within columns x ≡ true) × (within codes y ≡ true) → (within columns (to_z w32 (of_z w32 x)) ≡ true) × (within codes (to_z w32 (of_z w32 y)) ≡ true)
passed x y place = (rw (even 32767 place.0 tt).reads place.0, rw (even 32767 place.1 tt).reads place.1)

pub side-requires : goal.side-requires
side-requires c = record {
  a_value = (first_right c.args.t c.requires.t_value, second_right c.args.t c.requires.t_value);
  x_value = passed c.args.p.x c.args.p.y c.requires.place_value;
}

pub side-requires-2 : goal.side-requires-2
side-requires-2 c = record {
  a_value = (second_right c.args.t c.requires.t_value, third_right c.args.t c.requires.t_value);
  x_value = passed c.args.p.x c.args.p.y c.requires.place_value;
}

pub side-requires-3 : goal.side-requires-3
side-requires-3 c = record {
  a_value = (third_right c.args.t c.requires.t_value, first_right c.args.t c.requires.t_value);
  x_value = passed c.args.p.x c.args.p.y c.requires.place_value;
}

pub returns : goal.returns
returns c =
    let t = c.args.t in
    let x = (even 32767 c.requires.place_value.0 tt).reads in
    let y = (even 32767 c.requires.place_value.1 tt).reads in
    let first = read w64 c.side.type_inv c.side.ensures in
    let second = read w64 c.side-2.type_inv c.side-2.ensures in
    let third = read w64 c.side-3.type_inv c.side-3.ensures in
    c.one_sided.ensures ∙ (λ i. one_sided (first i) (second i) (third i))
    ∙ (λ i. one_sided (side t.first t.second (x i) (y i)) (side t.second t.third (x i) (y i)) (side t.third t.first (x i) (y i)))
