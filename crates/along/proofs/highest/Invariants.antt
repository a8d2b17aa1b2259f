use Prim.Native.Nat.{ℕ}
use mathlib.Core.Bool.{Bool}
use mathlib.Core.List.{List}
use lib.IntN.{ℤ}
use Rattle.level.specs.declared.Entry.{Entry}
use Rattle.level.specs.Levels.{set_at}
use Rattle.says.specs.declared.Asked.{Asked}
use Rattle.says.specs.Asking.{said_by}
use Rattle.along.proofs.Walks.{Walked}
use Rattle.along.proofs.highest.Given as goal

abbrev pub test : Asked → List ℤ → List ℕ → List Entry → ℕ → Bool
test asked table list entries v = said_by asked table list (set_at entries v)

abbrev pub invariant-loop-left : goal.invariant-loop-left
invariant-loop-left l = Walked (test l.asked l.table l.list l.entries) l.from l.to l.left

abbrev pub decreases-loop-left : goal.decreases-loop-left
decreases-loop-left l = l.left
