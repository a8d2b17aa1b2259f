use Rattle.std.proofs.Common.{◌≡◌, take, map, pos}
use Rattle.std.proofs.lemmas.List.Edits.{sets}
use Rattle.moves.proofs.put.Given as goal

abbrev pub invariant-loop-i : goal.invariant-loop-i
invariant-loop-i l = l.w ≡ sets l.initial.w l.at (map pos (take l.i l.words))
