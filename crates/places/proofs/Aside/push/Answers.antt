-- A place is put aside. Assumes nothing.
use Rattle.std.proofs.Common.{List, ◌∷◌, length, ap, ◌∙◌, arith}
use Rattle.places.specs.declared.Place.{Place}
use Rattle.places.proofs.Places.{length_last_first, pushed}
use Rattle.places.proofs.Aside.push.Goals as goal

pub returns : goal.returns
returns c =
    let s = c.self.inside in
    pushed s.places s.count c.args.at (omega (arith, c.requires, ap length c.self.view_is, length_last_first s.places s.count))
    ∙ ap (λ (aside : List Place). c.args.at ∷ aside) c.self.view_is
