use Prim.Native.Nat.{ℕ, suc, ◌-◌, ◌*◌, ◌^◌}
use native.Mathlib.Nat.{pow-suc}
use native.Mathlib.Omega.{arith}
use mathlib.Core.Path.{◌≡◌, refl, sym, ap, ◌∙◌}
use lib.ListN.{length}
use Rattle.rules.specs.Listing.{word_text}
use Rattle.rules.proofs.Numbers.{few_digits}
use Rattle.number.proofs.Digits.{some_digit, more_than, no_more_than}
use Rattle.number.proofs.highest_power.Goals as goal

pub loop-power-init : goal.loop-power-init
loop-power-init c = record { places = 0; power_is = refl; some = omega arith; within = some_digit 19 c.args.n }

pub loop-power-preserved : goal.loop-power-preserved
loop-power-preserved c =
    let n = c.args.n in
    let r = c.loop-power.invariant in
    let more : c.loop-power.power * 10 ≡ 10 ^ suc r.places = ap (λ (p : ℕ). p * 10) r.power_is ∙ sym (pow-suc 10 r.places) in
    record {
      places = suc r.places;
      power_is = more;
      some = omega (arith, r.some);
      within = more_than (suc r.places) n (omega arith) (omega (arith, more));
    }

pub returns : goal.returns
returns c =
    let n = c.args.n in
    let r = c.loop-power.invariant in
    let most = no_more_than r.places n (omega (arith, few_digits 20 n)) (omega (arith, r.power_is, r.some, pow-suc 10 r.places)) in
    let first : r.places ≡ length (word_text n) - 1 = omega (arith, r.within) in
    r.power_is ∙ ap (λ (k : ℕ). 10 ^ k) first
