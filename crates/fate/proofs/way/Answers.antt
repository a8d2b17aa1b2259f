use native.Mathlib.Omega.{arith}
use mathlib.Core.Path.{◌∙◌}
use Rattle.fate.proofs.Rooted.{way_fits, kth_way}
use Rattle.fate.proofs.way.Goals as goal

pub choose-requires : goal.choose-requires
choose-requires c =
    let s = c.before.before in
    let fits = way_fits s.args.table.now c.root.ensures s.args.k s.requires.k_bound in record {
      sound = s.requires.sound;
      row_bound = omega (arith, c.root.ensures, s.requires.sound.some_row);
      numbered = s.requires.numbered;
      remembered = s.requires.remembered;
      k_bound = fits;
    }

pub returns : goal.returns
returns c =
    let s = c.before.before.before in
    (c.choose.ensures.0 ∙ kth_way s.args.table.now c.root.ensures s.args.k s.requires.k_bound, c.choose.ensures.1)
