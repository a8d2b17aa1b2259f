use Prim.Native.Nat.{ℕ}
use mathlib.Core.Bool.{Bool}
use mathlib.Core.List.{List}
use mathlib.Core.Path.{◌≡◌}
use lib.IntN.{ℤ, pos}
use Rattle.ground.specs.Lists.{rest, all_of}
use Rattle.ground.specs.Tests.{eq_z}
use Rattle.rules.specs.Table.{word_at}
use Rattle.table.proofs.fields.spare_right.Given as goal

abbrev pub is_zero : List ℤ → ℕ → ℕ → Bool
is_zero t row i = eq_z (word_at t row i) (pos 0)

abbrev pub invariant-loop-k : goal.invariant-loop-k
invariant-loop-k l = all_of (is_zero l.table l.row) (rest l.start 12) ≡ all_of (is_zero l.table l.row) (rest l.k 12)
