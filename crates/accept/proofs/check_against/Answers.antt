use Rattle.laws.proofs.SoundLists.{list_sound}
use Rattle.laws.proofs.Telling.{alone, went_on}
use Rattle.laws.proofs.Turns.{first_broken, first_kept_on}
use Rattle.accept.proofs.check_against.Goals as goal

pub returns-in_err-check_list : goal.returns-in_err-check_list
returns-in_err-check_list c = first_broken _ _ c.from_residual.ensures.1 c.in_err-check_list.ensures

pub check_counts-requires : goal.check_counts-requires
check_counts-requires c = record {
  sound = c.requires;
  header_words_in_bounds = (list_sound c.args.list.now (went_on _ c.in_ok-check_list.ensures)).long;
}

pub returns : goal.returns
returns c = first_kept_on _ _ c.in_ok-check_list.ensures (alone _ c.check_counts.ensures)
