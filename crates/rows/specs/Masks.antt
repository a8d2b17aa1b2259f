-- The masks of a part of a plan, beside its primitives: its risk, and its span.
use Rattle.std.specs.Prelude.{ℕ, ◌^◌, ◌&&◌, List, if◌then◌else◌}
use Rattle.std.specs.Int.Bits.{bit_and, bit_or}
use Rattle.laws.specs.Plans.{Plan, with_it, without, either, both, mask, blank}
use Rattle.laws.specs.Reach.{cut_down}

-- the primitives on the right of an `either` whose two sides can both come to nothing: cuts among these matter to the test for repeats
unfoldable pub risk : Plan → ℕ
risk (with_it i) = 0
risk (without i) = 0
risk (either a b) = bit_or (if blank a 0 && blank b 0 then mask b else 0) (bit_or (risk a) (risk b))
risk (both a b) = bit_or (risk a) (risk b)

-- all that some choice of a plan can reach
module _ (meets : List ℕ) (seen : ℕ) where
  unfoldable pub span : Plan → ℕ
  span (with_it i) = cut_down meets (2 ^ i) seen
  span (without i) = seen
  span (either a b) = bit_or (span a) (span b)
  span (both a b) = bit_and (span a) (span b)
