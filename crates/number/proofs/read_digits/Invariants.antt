use Prim.Native.Nat.{◌<◌}
use mathlib.Core.Path.{◌≡◌}
use lib.ListN.{drop}
use Rattle.number.specs.Reading.{scanned}
use Rattle.number.proofs.read_digits.Given as goal

abbrev pub invariant-loop-next : goal.invariant-loop-next
invariant-loop-next l = (l.value < 10000000000) × (scanned l.value l.next (drop l.next l.text) ≡ scanned 0 l.at (drop l.at l.text))
