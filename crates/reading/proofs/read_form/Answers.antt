use Rattle.std.proofs.lemmas.Result.{err_from_is_err_and}
use Rattle.reading.proofs.LineFaults.{header_fault}
use Rattle.reading.proofs.ReadCalls.{left_out, told_on}
use Rattle.reading.proofs.ReadTables.{header_begun}
use Rattle.reading.proofs.read_form.Goals as goal

pub returns-in_err-header : goal.returns-in_err-header
returns-in_err-header c =
    let out = left_out _ c.read_header.result c.in_err-header.ensures.value c.read_header.ensures in
    let exit = err_from_is_err_and c.from_residual.result c.from_residual.ensures.1 in
    rw (exit.1, exit.2, out.1) (header_fault out.0)

pub read_rows-requires-clause-begun : goal.read_rows-requires-clause-begun
read_rows-requires-clause-begun c = header_begun (told_on _ _ _ c.read_header.result c.in_ok-header.ensures.value c.read_header.ensures) c.requires
