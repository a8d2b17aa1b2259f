-- Section 10 of docs/RULES.md: a frame's samples, and what a search finds among them.
use Rattle.std.specs.Prelude.{ℕ, zero, suc, Bool, ◌||◌, List, [], ◌∷◌, eqb, ltb, ℤ, pos, ◌+ℤ◌, ◌-ℤ◌, length, get_or, if◌then◌else◌}
use Rattle.std.proofs.Math.Option.{Option}
use Rattle.std.specs.Int.Signed.{lt_z}
use Rattle.ground.specs.Lists.{below, all_of, any_of, count_if, find_if, first_of, rulings}
use Rattle.rules.specs.declared.Place.{Place}
use Rattle.rules.specs.declared.Point.{Point}
use Rattle.rules.specs.declared.Refusal.{Refusal}
use Rattle.rules.specs.declared.Rule.TheVariants as rule
use Rattle.rules.specs.Ranges.{Span, within, upwards, columns, frames}
use Rattle.rules.specs.Boxes.{Box, holds}
use Rattle.rules.specs.Refusals.{refuse_if, refuse_unless}

abbrev pub most_samples : ℕ
most_samples = 65536

-- sample k stands at column first + k
abbrev pub column : Place → ℕ → ℤ
column place k = place.first +ℤ pos k

abbrev pub code_at : List ℤ → ℕ → ℤ
code_at samples k = get_or samples k (pos 0)

-- from the code before, itself left out unless equal, to this code, both directions alike
abbrev pub fill : ℤ → ℤ → Span
fill before code =
    if lt_z before code then record { lo = before +ℤ pos 1; hi = code }
    else (if lt_z code before then record { lo = code; hi = before -ℤ pos 1 } else record { lo = code; hi = code })

-- the span of codes that the column of sample k holds: sample 0 has none before it, and holds its own code
abbrev pub held_span : List ℤ → ℕ → Span
held_span samples zero = record { lo = code_at samples 0; hi = code_at samples 0 }
held_span samples (suc k) = fill (code_at samples k) (code_at samples (suc k))

abbrev pub held_codes : List ℤ → ℕ → List ℤ
held_codes samples k = upwards (held_span samples k)

abbrev pub point_of : Place → ℕ → ℤ → Point
point_of place k code = record { x = column place k; y = code; z = place.frame }

-- frame empty or too long; a column out of range; the frame number out of range (12)
abbrev pub frame_refusal : List ℤ → Place → Option Refusal
frame_refusal samples place =
    first_of
    (refuse_if (eqb (length samples) 0 || ltb most_samples (length samples)) rule.Frame 0
    ∷ refuse_unless (all_of (λ k. within columns (column place k)) (below (length samples))) rule.Frame 1
    ∷ refuse_unless (within frames place.frame) rule.Frame 2
    ∷ [])

-- the first sample that is out of a window (10)
abbrev pub leaves_refusal : Box → List ℤ → Place → Option Refusal
leaves_refusal window samples place =
    rulings (λ k. refuse_unless (holds window (point_of place k (code_at samples k))) rule.Outside k) 0 (length samples)

-- over any way to be inside, that of a tree or that of a list
module _ (is_inside : Point → Bool) (samples : List ℤ) (place : Place) where
  abbrev pub sample_inside : ℕ → Bool
  sample_inside k = any_of (λ code. is_inside (point_of place k code)) (held_codes samples k)

  unfoldable pub first_inside : Option ℕ
  first_inside = find_if sample_inside (below (length samples))

  unfoldable pub inside_count : ℕ
  inside_count = count_if sample_inside (below (length samples))
