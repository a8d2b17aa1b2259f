use Prim.Native.Nat.{ℕ, ◌-◌, ◌^◌, ◌<◌}
use mathlib.Core.Path.{◌≡◌}
use lib.ListN.{length}
use Rattle.rules.specs.Listing.{word_text}
use Rattle.number.proofs.highest_power.Given as goal

-- a power of ten that some digit of n stands for
pub record Reached (n power : ℕ) : Type 0 where
  pub places : ℕ
  pub power_is : power ≡ 10 ^ places
  pub some : 0 < power
  pub within : places < length (word_text n)

abbrev pub invariant-loop-power : goal.invariant-loop-power
invariant-loop-power l = Reached l.n l.power

abbrev pub decreases-loop-power : goal.decreases-loop-power
decreases-loop-power l = l.n - l.power
