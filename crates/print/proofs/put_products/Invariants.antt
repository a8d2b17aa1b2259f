use Rattle.number.specs.Writing.{Put}
use Rattle.print.specs.Lines.{lines_to}
use Rattle.print.proofs.put_products.Given as goal

abbrev pub invariant-loop-k : goal.invariant-loop-k
invariant-loop-k l = Put l.initial.out l.at (lines_to l.list l.k) l.out l.next
