-- The code before a sample; and the first inside sample of a frame, from which the search goes on.
use Rattle.std.specs.Prelude.{ℕ, ◌+◌, ◌-◌, ◌<◌, Bool, true, ◌≡◌, ℤ, List, length, Some, None}
use Rattle.std.specs.Prelude as prelude
use Rattle.rules.specs.declared.Axis.TheVariants.{Frame}
use Rattle.rules.specs.declared.Place.{Place}
use Rattle.rules.specs.declared.Point.{Point}
use Rattle.rules.specs.Frame.{code_at, sample_inside}
use Rattle.rules.specs.ListWords.{raised}
use Rattle.rules.specs.Ranges.{within, columns}
use Rattle.frame.specs.Tallies.{stepped, Tallied, Running}
use Rattle.sweep.specs.declared.Seen.{Seen}
use Rattle.sweep.specs.Sweeps.{Known}

-- the place of the code before sample k; before sample 0 that of its own
pub record Before (samples : List ℤ) (k before : ℕ) : Type 0 where
  pub is : before ≡ raised Frame (code_at samples (k - 1))
  pub ranged : within columns (code_at samples (k - 1)) ≡ true

-- the tally begins with what was seen, and on its patch the answer is known
pub record Begun (is_inside : Point → Bool) (samples : List ℤ) (place : Place) (seen : Seen) : Type 0 where
  pub in_frame : seen.sample < length samples
  pub running : Running (sample_inside is_inside samples place) (length samples) (seen.sample + 1) (stepped None seen.sample true)
  pub known : Known is_inside place.frame seen.patch

-- nothing is seen in a frame that is clear
abbrev pub SeenFirst : (Point → Bool) → List ℤ → Place → prelude.Option Seen → Type 0
SeenFirst is_inside samples place None = Tallied (sample_inside is_inside samples place) (length samples) None
SeenFirst is_inside samples place (Some seen) = Begun is_inside samples place seen
