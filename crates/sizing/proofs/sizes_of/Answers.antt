-- One row more has its size. Assumes nothing.
use Rattle.std.proofs.Common.{arith}
use Rattle.sizing.proofs.Sizes.{sized_more}
use Rattle.sizing.proofs.sizes_of.Goals as goal

pub loop-row-preserved : goal.loop-row-preserved
loop-row-preserved c = sized_more (omega (arith, c.row_count-row-end.ensures, c.requires.sound.not_over)) c.loop-row.invariant c.size_of_row.ensures
