use Rattle.sizing.specs.Sizes.{SizedTo}
use Rattle.sizing.proofs.sizes_of.Given as goal

abbrev pub invariant-loop-row : goal.invariant-loop-row
invariant-loop-row l = SizedTo l.table l.sizes l.row
