use Prim.Native.Nat.{◌+◌, ◌≤◌}
use mathlib.Core.Path.{◌≡◌}
use Rattle.std.specs.List.{copy_within}
use Rattle.moves.proofs.make_room.Given as goal

abbrev pub invariant-loop-i : goal.invariant-loop-i
invariant-loop-i l = (l.at ≤ l.i) × (l.w ≡ copy_within l.initial.w l.i l.end (l.i + l.k))
