-- Tests that choose between two values or say whether something holds, and the test that two whole numbers are equal.
use Rattle.std.specs.Prelude.{Bool, true, false, eqb, ℤ, pos, negsuc}

abbrev pub Says : Bool → Type 0 → Type 0
Says true X = X
Says false X = X → ⊥

abbrev pub eq_z : ℤ → ℤ → Bool
eq_z (pos a) (pos b) = eqb a b
eq_z (pos a) (negsuc b) = false
eq_z (negsuc a) (pos b) = false
eq_z (negsuc a) (negsuc b) = eqb a b
