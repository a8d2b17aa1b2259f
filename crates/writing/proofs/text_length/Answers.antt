use native.Mathlib.Omega.{arith}
use Rattle.rules.specs.Table.{row_count}
use Rattle.laws.proofs.Soundness.{table_sound}
use Rattle.laws.proofs.Texts.{text_short}
use Rattle.rules.proofs.Numbers.{few_digits}
use Rattle.writing.proofs.Written.{header_size, text_size}
use Rattle.writing.proofs.text_length.Goals as goal

pub returns : goal.returns
returns c =
    let t = c.args.table.now in
    let header = header_size (row_count t) (table_sound t c.requires).not_over in
    omega (arith, header, text_size t c.requires, c.decimal_length.ensures, c.rows_length.ensures)

pub overflow_add-result : goal.overflow_add-result
overflow_add-result c = omega (arith, c.decimal_length.ensures, few_digits 20 (row_count c.args.table.now))

pub overflow_add-result-2 : goal.overflow_add-result-2
overflow_add-result-2 c = record { fits = omega (arith, returns c, text_short c.args.table.now c.requires) }
