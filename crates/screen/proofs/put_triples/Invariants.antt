use mathlib.Core.Path.{◌≡◌}
use lib.Seq.{sets}
use Rattle.screen.proofs.Frames.{triples_to}
use Rattle.screen.proofs.put_triples.Given as goal

abbrev pub invariant-loop-j : goal.invariant-loop-j
invariant-loop-j l =
    l.triples ≡ sets l.initial.triples 0 (triples_to l.table l.list l.codes l.frames l.place l.j)
