-- r is at most 4096 and a distance at most 65536.
use Prim.Native.Nat.{ℕ, ◌+◌, ◌*◌, ◌≤◌}
use native.Mathlib.Nat.{mul-le-mul}
use native.Mathlib.Omega.{arith}
use mathlib.Core.Bool.{true}
use mathlib.Core.Path.{◌≡◌, ap, ◌∙◌}
use lib.IntN.{ℤ, nat_abs, ◌-ℤ◌}
use mir.Syntax.{w32}
use mir.Val.{to_z, of_z}
use Rattle.ground.proofs.Num.{sub_num}
use Rattle.rules.specs.Fields.{radii}
use Rattle.rules.specs.Ranges.{within, columns}
use Rattle.solid.proofs.Numbers.{even, upper}
use Rattle.margin.proofs.bend_weight.Goals as goal

most : {r k : ℕ} → r ≤ 4097 → k ≤ 65536 → r * r * (2 * k + 64) ≤ 16785409 * 131136
most {r} {k} h l = let wide : 2 * k + 64 ≤ 131136 = omega arith in mul-le-mul (mul-le-mul h h) wide

-- a radius and a distance, as they were passed
sized : {n : ℕ} (r : ℤ) → within radii r ≡ true → n ≡ nat_abs (to_z w32 (of_z w32 r)) → n ≤ 4097
sized r h e = let n = upper 4096 {v = r} h tt in rw (e ∙ ap nat_abs n.reads) n.bound

apart : {n : ℕ} (v o : ℤ) → within columns v ≡ true → within columns o ≡ true → n ≡ nat_abs (to_z w32 (of_z w32 v) -ℤ to_z w32 (of_z w32 o)) → n ≤ 65536
apart v o h k e =
    let p = even 32767 {v = v} h tt in
    let q = even 32767 {v = o} k tt in
    rw (e ∙ λ i. nat_abs (p.reads i -ℤ q.reads i)) (sub_num p q tt).bound

pub overflow_mul-result-3 : goal.overflow_mul-result-3
overflow_mul-result-3 c =
    let r = sized c.args.radius c.requires.radius_value c.unsigned_abs-r.ensures.value in
    let k = apart c.args.v c.args.centre c.requires.centre_value.1 c.requires.centre_value.0 c.abs_diff.ensures in
    record { fits = omega (arith, most r k) }

pub returns-clause-bounded : goal.returns-clause-bounded
returns-clause-bounded c =
    let r = sized c.args.radius c.requires.radius_value c.unsigned_abs-r.ensures.value in
    let k = apart c.args.v c.args.centre c.requires.centre_value.1 c.requires.centre_value.0 c.abs_diff.ensures in
    omega (arith, most r k)
