use Rattle.ground.proofs.Masks.{one_shifted}
use Rattle.along.proofs.Lining.{none_kept, one_kept}
use Rattle.along.proofs.keep_solid.Goals as goal

pub returns-then-misses : goal.returns-then-misses
returns-then-misses c = λ solids L.
    none_kept L c.args.s c.solid_span-stretch.ensures c.requires.to_le_places (c.misses.ensures c.if-misses.true)

pub returns : goal.returns
returns c = λ solids L.
    let kept = one_kept L c.args.s c.solid_span-stretch.ensures c.requires.to_le_places in
    rw (c.push.ensures, one_shifted c.args.met c.requires.kept_le_met.1) kept
