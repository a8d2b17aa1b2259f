use native.Mathlib.Omega.{arith}
use mathlib.Core.Path.{sym, ap}
use lib.ListN.{length}
use Rattle.rules.specs.Kinds.{named_words}
use Rattle.laws.proofs.TextLengths.{few_named}
use Rattle.writing.proofs.Written.{fields_few, name_few, line_size, line_known, line_unknown}
use Rattle.writing.proofs.row_length.Goals as goal

pub overflow_add-result : goal.overflow_add-result
overflow_add-result c =
    let kind = c.in-Ok.kind in
    let fields = fields_few c.args.table.now c.args.row (named_words kind) in
    record { fits = omega (arith, ap length c.kind_name.ensures, name_few kind, c.fields_length.ensures, fields, few_named kind) }

pub overflow_add-result-in-Ok : goal.overflow_add-result-in-Ok
overflow_add-result-in-Ok c =
    let kind = c.in-Ok.kind in
    let fields = fields_few c.args.table.now c.args.row (named_words kind) in
    record { fits = omega (arith, ap length c.kind_name.ensures, name_few kind, c.fields_length.ensures, fields, few_named kind) }

pub returns-in-Err : goal.returns-in-Err
returns-in-Err c =
    sym (ap length (line_unknown c.args.table.now c.args.row c.word.type_inv c.word.ensures c.in-Err.ensures))

pub returns-in-Ok : goal.returns-in-Ok
returns-in-Ok c =
    let t = c.args.table.now in
    let line = line_known t c.args.row c.word.type_inv c.word.ensures c.in-Ok.ensures in
    omega (arith, ap length line, line_size t c.args.row c.in-Ok.kind, ap length c.kind_name.ensures, c.fields_length.ensures)
