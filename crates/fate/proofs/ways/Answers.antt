use native.Mathlib.Omega.{arith}
use mathlib.Core.Path.{◌∙◌}
use Rattle.fate.proofs.Rooted.{all_ways}
use Rattle.fate.proofs.ways.Goals as goal

pub count_ways-requires : goal.count_ways-requires
count_ways-requires c =
    let s = c.before.before in record {
      sound = s.requires.sound;
      row_bound = omega (arith, c.root.ensures, s.requires.sound.some_row);
      numbered = s.requires.numbered;
      remembered = s.requires.remembered;
    }

pub returns : goal.returns
returns c =
    let s = c.before.before.before in
    (c.count_ways.ensures.0 ∙ all_ways s.args.table.now c.root.ensures, c.count_ways.ensures.1)
