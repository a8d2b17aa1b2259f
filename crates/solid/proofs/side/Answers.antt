-- A corner is at most 2 ^ 16 from a point on each axis, so that a product is at most 2 ^ 32 and the difference exact in 64 bits.
use Prim.Native.Nat.{ℕ}
use mathlib.Core.Bool.{true}
use mathlib.Core.Path.{◌≡◌}
use lib.IntN.{ℤ, ◌-ℤ◌, ◌*ℤ◌}
use mir.Syntax.{w32, w64}
use mir.Val.{to_z, of_z}
use Rattle.ground.proofs.Num.{Num, cast_num, mul_fits, mul_num, sub_fits, sub_num}
use Rattle.rules.specs.declared.Corner.{Corner}
use Rattle.rules.specs.Fields.{corner_right}
use Rattle.rules.specs.Ranges.{within, columns, codes}
use Rattle.solid.proofs.Numbers.{even, corner_x, corner_y}
use Rattle.solid.proofs.side.Goals as goal

abbrev bits : ℤ → ℤ → ℕ
bits v o = of_z w64 (to_z w32 (of_z w32 (to_z w32 (of_z w32 v) -ℤ to_z w32 (of_z w32 o))))

-- how far a corner is from a place, on each axis
module _ (c : Corner) (x y : ℤ) (right : corner_right c ≡ true) (place : (within columns x ≡ true) × (within codes y ≡ true)) where
  across : Num w64 (bits c.x x) (c.x -ℤ x) 65536
  across = cast_num (sub_num (corner_x c right) (even 32767 place.0 tt) tt) tt

  up : Num w64 (bits c.y y) (c.y -ℤ y) 65536
  up = cast_num (sub_num (corner_y c right) (even 32767 place.1 tt) tt) tt

-- one corner's distance across times the other's distance up
module _ (a b : Corner) (x y : ℤ) (right : (corner_right a ≡ true) × (corner_right b ≡ true)) (place : (within columns x ≡ true) × (within codes y ≡ true)) where
  rising : Num w64 (of_z w64 (to_z w64 (bits a.x x) *ℤ to_z w64 (bits b.y y))) ((a.x -ℤ x) *ℤ (b.y -ℤ y)) 4294967296
  rising = mul_num (across a x y right.0 place) (up b x y right.1 place) tt

  falling : Num w64 (of_z w64 (to_z w64 (bits b.x x) *ℤ to_z w64 (bits a.y y))) ((b.x -ℤ x) *ℤ (a.y -ℤ y)) 4294967296
  falling = mul_num (across b x y right.1 place) (up a x y right.0 place) tt

pub overflow_mul-result : goal.overflow_mul-result
overflow_mul-result c =
    let a = c.args in
    let place = c.requires.x_value in
    mul_fits (across a.a a.x a.y c.requires.a_value.0 place) (up a.b a.x a.y c.requires.a_value.1 place) tt

pub overflow_mul-result-2 : goal.overflow_mul-result-2
overflow_mul-result-2 c =
    let a = c.args in
    let place = c.requires.x_value in
    mul_fits (across a.b a.x a.y c.requires.a_value.1 place) (up a.a a.x a.y c.requires.a_value.0 place) tt

pub overflow_sub-result-5 : goal.overflow_sub-result-5
overflow_sub-result-5 c =
    let a = c.args in
    let one = rising a.a a.b a.x a.y c.requires.a_value c.requires.x_value in
    sub_fits one (falling a.a a.b a.x a.y c.requires.a_value c.requires.x_value) tt

pub returns : goal.returns
returns c =
    let a = c.args in
    let one = rising a.a a.b a.x a.y c.requires.a_value c.requires.x_value in
    (sub_num one (falling a.a a.b a.x a.y c.requires.a_value c.requires.x_value) tt).reads

pub overflow_sub-result-2 : goal.overflow_sub-result-2
overflow_sub-result-2 c = sub_fits (corner_y c.args.b c.requires.a_value.1) (even 32767 {v = c.args.y} c.requires.x_value.1 tt) tt

pub overflow_sub-result-4 : goal.overflow_sub-result-4
overflow_sub-result-4 c = sub_fits (corner_y c.args.a c.requires.a_value.0) (even 32767 {v = c.args.y} c.requires.x_value.1 tt) tt
