use mathlib.Core.Path.{sym}
use Rattle.number.proofs.Writing.{put_same, put_join}
use Rattle.writing.proofs.put_line.Goals as goal

pub returns : goal.returns
returns c = put_join (put_same (sym c.kind_name.ensures) c.put_bytes-name.ensures) (put_join c.put_fields-fields.ensures c.put_bytes.ensures)
