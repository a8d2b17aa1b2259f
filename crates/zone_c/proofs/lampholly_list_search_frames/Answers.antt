use borrow.Author.Rules.{rules}
use Rattle.rules.specs.ListCalls.{ScreenSearched}
use Rattle.zone_c.proofs.Lent.{same_place, answered}
use Rattle.zone_c.proofs.lampholly_list_search_frames.Goals as goal

pub returns : goal.returns
returns c =
    let called = c.before.before.before.before in
    let s = called.args in
    let after = called.list_search_frames.new.triples in
    answered (λ place. ScreenSearched s.table.now s.list.now s.codes.now s.frames place s.triples.now after) (same_place (search rules) (search rules))
    called.list_search_frames.ensures c.tell.ensures
