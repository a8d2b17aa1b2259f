-- A place is its value and the offset, so that the half space of places is up to e and s times the offset.
use Prim.Native.Nat.{◌≤◌}
use native.Mathlib.Nat.{le_refl}
use native.Mathlib.Omega.{arith}
use lib.IntN.{ℤ, nat_abs, pos}
use mir.Syntax.{w32, w64}
use mir.Val.{SFits, to_z, of_z}
use mir.ValLaws.{to_z-of_z}
use Rattle.ground.proofs.Num.{Num, cast_num, unsigned, mul_fits, mul_num, add_fits, add_num}
use Rattle.span.proofs.Along.{as_along}
use Rattle.span.proofs.Order.{line_place}
use Rattle.span.proofs.half_values.Goals as goal

offset : Num w64 1048576 (pos 1048576) 1048576
offset = unsigned (le_refl 1048576) tt

module _ (s : ℤ) (f : SFits w32 s) (h : nat_abs s ≤ 65536) where
  slope : Num w64 (of_z w64 (to_z w32 (of_z w32 s))) s 65536
  slope = let n : Num w32 (of_z w32 s) s 65536 = record { reads = to_z-of_z w32 s f; bound = h } in cast_num n tt

module _ (e : ℤ) (f : SFits w64 e) (h : nat_abs e ≤ 100000000000) where
  end : Num w64 (of_z w64 e) e 100000000000
  end = record { reads = to_z-of_z w64 e f; bound = h }

pub overflow_mul-s : goal.overflow_mul-s
overflow_mul-s c = mul_fits (slope c.args.s c.ranges.s c.requires.0) offset tt

pub overflow_add-e : goal.overflow_add-e
overflow_add-e c = add_fits (end c.args.e c.ranges.e c.requires.1) (mul_num (slope c.args.s c.ranges.s c.requires.0) offset tt) tt

pub half-requires : goal.half-requires
half-requires c =
    let s = slope c.args.s c.ranges.s c.requires.0 in
    let most = add_num (end c.args.e c.ranges.e c.requires.1) (mul_num s offset tt) tt in
    (rw s.reads (omega (arith, s.bound)), rw most.reads (omega (arith, most.bound)))

pub returns : goal.returns
returns c =
    let s = slope c.args.s c.ranges.s c.requires.0 in
    let most = add_num (end c.args.e c.ranges.e c.requires.1) (mul_num s offset tt) tt in
    as_along (λ v l. line_place c.args.s c.args.e v) (rw (most.reads, s.reads) at c.half.ensures)
