-- Whether a choice repeats an earlier one.
use Rattle.std.specs.Prelude.{ℕ, Bool, false, ◌&&◌, ◌||◌, eqb, if◌then◌else◌}
use Rattle.std.specs.Int.Bits.{bit_and}
use Rattle.laws.specs.Plans.{Plan, with_it, without, either, both, mask, blank}
use Rattle.rows.specs.Masks.{risk}

-- neither of two sets has a primitive of m
abbrev pub clear : ℕ → ℕ → ℕ → Bool
clear m plain cuts = eqb (bit_and plain m) 0 && eqb (bit_and cuts m) 0

-- no cut of k is dropped within a set
abbrev pub safe : ℕ → ℕ → ℕ → Bool
safe k cuts reach = eqb (bit_and (bit_and cuts k) reach) (bit_and cuts k)

-- a choice that is known by its bits alone repeats an earlier one of the plan
unfoldable pub stale : Plan → ℕ → ℕ → ℕ → Bool
stale (with_it i) P N R = false
stale (without i) P N R = false
stale (either a b) P N R = if safe (risk (either a b)) N R then false else (if clear (mask a) P N then ((clear (mask b) P (bit_and N R) && blank a R) || stale b P N R) else stale a P N R)
stale (both a b) P N R = if safe (risk (both a b)) N R then false else (stale a P N R || stale b P N R)
