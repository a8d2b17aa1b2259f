-- What the check of a frame comes to, rule by rule; and what a column holds. Assumes nothing.
use Prim.Native.Nat.{◌≤◌}
use native.Mathlib.Omega.{arith}
use mathlib.Core.Bool.{Bool, false, ◌||◌}
use mathlib.Core.List.{List}
use mathlib.Core.Path.{◌≡◌}
use borrow.Author.Tests.{eqb-false, ltb-false}
use lib.Dec.{eqb, ltb}
use lib.IntN.{ℤ}
use lib.ListN.{length}
use Rattle.ground.specs.Lists.{below, all_of}
use Rattle.rules.specs.declared.Place.{Place}
use Rattle.rules.specs.Ranges.{within, columns}
use Rattle.rules.specs.Frame.{most_samples, column}
use Rattle.laws.proofs.Columns.{ends_are_all}
use Rattle.laws.proofs.Soundness.{or_false}
use Rattle.frame.specs.Tallies.{columns_right}

module _ (samples : List ℤ) (place : Place) where
  abbrev pub wrong_length : Bool
  wrong_length = eqb (length samples) 0 || ltb most_samples (length samples)

  module _ (l : wrong_length ≡ false) where
    pub some_sample : 1 ≤ length samples
    some_sample = let p = or_false (eqb (length samples) 0) (ltb most_samples (length samples)) l in omega (arith, eqb-false (length samples) 0 p.0)

    pub not_over : length samples ≤ 65536
    not_over = ltb-false most_samples (length samples) (or_false (eqb (length samples) 0) (ltb most_samples (length samples)) l).1

    -- by the two ends of the columns, as the code tests them
    abbrev pub right_columns : Bool
    right_columns = columns_right place.first (length samples)

    pub by_ends : right_columns ≡ all_of (λ k. within columns (column place k)) (below (length samples))
    by_ends = ends_are_all columns place.first (length samples) some_sample
