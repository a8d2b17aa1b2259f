use native.Mathlib.Omega.{arith}
use Rattle.reading.proofs.LineFaults.{row_fault, rest_fault}
use Rattle.reading.proofs.ReadTables.{row_begun, spelt_out}
use Rattle.reading.proofs.read_rows.Goals as goal

pub returns-in_default : goal.returns-in_default
returns-in_default c = row_fault c.requires.right_count c.loop-row.invariant (omega arith) c.in_default.ensures

pub loop-row-preserved : goal.loop-row-preserved
loop-row-preserved c = row_begun c.requires.right_count c.loop-row.invariant (omega arith) c.in-Some.ensures

pub returns-then-at-text : goal.returns-then-at-text
returns-then-at-text c = rest_fault c.requires.right_count c.loop-row.invariant (omega arith) c.if-at-text.true

pub returns : goal.returns
returns c = spelt_out c.requires.right_count c.loop-row.invariant (omega arith) c.if-at-text.false
