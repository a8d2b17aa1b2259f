use Rattle.std.specs.Prelude.{None}
use Rattle.says.specs.Asking.{inside_by}
use Rattle.sweep.proofs.Traces.{Going}
use Rattle.sweep.proofs.first_inside.Given as goal

abbrev pub invariant-loop-k : goal.invariant-loop-k
invariant-loop-k l = Going (inside_by l.asked l.table l.list) l.samples l.place l.before l.q None l.k
