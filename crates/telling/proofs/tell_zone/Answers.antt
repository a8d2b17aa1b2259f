use Rattle.laws.proofs.Texts.{read_sound}
use Rattle.telling.proofs.tell_zone.Goals as goal

pub tell_table-requires : goal.tell_table-requires
tell_table-requires g c = read_sound c.in-Ok.ensures
