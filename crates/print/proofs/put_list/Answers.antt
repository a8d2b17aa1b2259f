use native.Mathlib.Omega.{arith}
use Rattle.rules.specs.ListWords.{product_count}
use Rattle.rules.specs.Text.{line_feed}
use Rattle.number.proofs.Writing.{put_same, put_join, put_size}
use Rattle.print.proofs.Lengths.{word_most}
use Rattle.print.proofs.Lines.{lines_of_list}
use Rattle.print.proofs.put_list.Goals as goal

pub put_products-requires-clause-room : goal.put_products-requires-clause-room
put_products-requires-clause-room c =
    let name = c.put_bytes-named.ensures in
    let count = c.put_word-next.ensures in
    let size = word_most (product_count c.args.list.now) line_feed in
    omega (arith, c.requires.list_in_bounds.1, c.requires.in_bounds, name.end, put_size name, count.end, put_size count, size)

pub returns : goal.returns
returns c =
    put_same (lines_of_list c.args.list.now) (put_join c.put_bytes-named.ensures (put_join c.put_word-next.ensures c.put_products.ensures))
