-- The three words of an answer, as 32 bits hold them.
use Rattle.std.specs.Prelude.{◌≤◌}
use Rattle.ground.specs.Lists.{All}
use Rattle.rules.specs.Frame.{most_samples}
use Rattle.rules.specs.Screen.{triple_of}
use Rattle.rules.specs.Told.{Told}

abbrev pub Small : Told → Type 0
Small told = All (λ word. word ≤ most_samples) (triple_of told)
