use Prim.Native.Nat.{ℕ, ◌≤◌, ◌<◌, ◌*◌, ◌-◌, ◌+◌, ◌/◌}
use mathlib.Core.Path.{◌≡◌, subst}
use native.Mathlib.Nat.{mul-le-mul, lt_of_le_of_lt}
use native.Mathlib.Omega.{arith}
use Rattle.span.proofs.root.Invariants.{Inv}
use Rattle.span.proofs.root.Goals as goal

abbrev mid : ℕ → ℕ → ℕ
mid f o = f + (o - f) / 2

mid_le : {r2 room f o : ℕ} → Inv r2 room f o → mid f o ≤ 4097
mid_le i = omega (arith, i)

square_le : {r2 room f o : ℕ} → Inv r2 room f o → mid f o * mid f o ≤ 4097 * 4097
square_le i = mul-le-mul (mid_le i) (mid_le i)

largest : 16777216 * (4097 * 4097) < 18446744073709551616
largest = omega arith

pub overflow_mul-m : goal.overflow_mul-m
overflow_mul-m c = omega (arith, square_le c.loop-fits.invariant)

pub overflow_mul-r2 : goal.overflow_mul-r2
overflow_mul-r2 c = record { fits = lt_of_le_of_lt (mul-le-mul c.requires.r2_bound.0 (square_le c.loop-fits.invariant)) largest }

pub returns : goal.returns
returns c =
    let i = c.loop-fits.invariant in
    let closed : c.loop-fits.over ≡ c.loop-fits.fits + 1 = omega (arith, i) in
    record {
      root = record { fits = i.under; over = subst (λ o. c.args.room < c.args.r2 * (o * o)) closed i.above };
      bounded = omega (arith, i);
    }
