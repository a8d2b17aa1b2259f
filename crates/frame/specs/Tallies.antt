-- Columns by their two ends; and a running tally of inside samples: the first of them, and how many.
use Rattle.std.specs.Prelude.{ℕ, ◌+◌, ◌-◌, ◌≤◌, Bool, true, false, ◌&&◌, ◌≡◌, ℤ, pos, ◌+ℤ◌, Some, None}
use Rattle.std.specs.Prelude as prelude
use Rattle.std.proofs.Math.Option.{Option, none, some}
use Rattle.std.specs.Int.Signed.{le_z}
use Rattle.ground.specs.Lists.{rest, below, or_else, find_if, count_if}
use Rattle.rules.specs.Ranges.{within, columns}
use Rattle.rules.specs.declared.Hit.{Hit}

-- n columns from the first on, by the first and the last of them
abbrev pub columns_right : ℤ → ℕ → Bool
columns_right first n = within columns first && le_z (first +ℤ pos (n - 1)) columns.hi

-- the first inside sample so far and how many there are, if there is one
abbrev pub Tally : Type 0
Tally = prelude.Option Hit

abbrev pub seen : Tally → Option ℕ
seen None = none
seen (Some found) = some found.first

abbrev pub seen_count : Tally → ℕ
seen_count None = 0
seen_count (Some found) = found.count

-- one sample more
abbrev pub stepped : Tally → ℕ → Bool → Tally
stepped t k false = t
stepped None k true = Some (record { first = k; count = 1 })
stepped (Some found) k true = Some (record { first = found.first; count = found.count + 1 })

-- a tally of the first n samples, by a test of each
pub record Tallied (test : ℕ → Bool) (n : ℕ) (t : Tally) : Type 0 where
  pub first : seen t ≡ find_if test (below n)
  pub count : seen_count t ≡ count_if test (below n)

-- a tally of the first k samples: with what is left to come, it is that of all n
pub record Running (test : ℕ → Bool) (n k : ℕ) (t : Tally) : Type 0 where
  pub first : or_else (seen t) (find_if test (rest k n)) ≡ find_if test (below n)
  pub count : seen_count t + count_if test (rest k n) ≡ count_if test (below n)
  pub few : seen_count t ≤ k
