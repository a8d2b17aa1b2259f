use native.Mathlib.Omega.{arith}
use mathlib.Core.List.{[], ◌∷◌, ◌++◌}
use mathlib.Core.Path.{sym}
use lib.Seq.{append_snoc}
use Rattle.rules.specs.Listing.{word_text}
use Rattle.rules.specs.Text.{tab, line_feed}
use Rattle.number.proofs.Writing.{put_same, put_join, put_size}
use Rattle.print.proofs.Lengths.{word_most}
use Rattle.print.proofs.put_pair.Goals as goal

pub put_word-requires : goal.put_word-requires
put_word-requires c =
    let first = c.put_word-next.ensures in
    omega (arith, c.requires, first.end, put_size first, word_most c.args.first tab)

pub returns : goal.returns
returns c =
    let line = append_snoc (word_text c.args.first) tab (word_text c.args.second ++ (line_feed ∷ [])) in
    put_same (sym line) (put_join c.put_word-next.ensures c.put_word.ensures)
