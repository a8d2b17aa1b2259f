use mathlib.Core.Path.{refl}
use Rattle.laws.specs.Held.{suits}
use Rattle.says.proofs.suits.Goals as goal

pub returns : goal.returns
returns c = let s = c.args in refl {a = suits s.set s.c}
