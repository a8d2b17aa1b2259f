use Prim.Native.Nat.{◌+◌}
use mathlib.Core.Path.{◌≡◌}
use lib.ListN.{length}
use Rattle.std.specs.Iterator.Adapters.{enumerate_source}
use Rattle.std.specs.Slice.Iter.{split_inclusive_rest}
use Rattle.questions.proofs.obey_all.Given as goal

-- the lines up to the end and those that are left make up the text
abbrev pub invariant-loop-i : goal.invariant-loop-i
invariant-loop-i l =
    (goal.iterator-loop-i).can_next l.i-iterator × (goal.iterator-loop-i).is_finite l.i-iterator
    × (l.end + length (split_inclusive_rest (enumerate_source l.i-iterator)) ≡ length l.text)
