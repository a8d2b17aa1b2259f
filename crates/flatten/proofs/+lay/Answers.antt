-- The tree of a row in prefix form, by recursion on the row. Assumes nothing.
use native.Mathlib.Omega.{arith}
use borrow.Author.Rules.{rules}
use Rattle.paper.proofs.Rows.{some_rows}
use Rattle.moves.specs.Moves.{IsWord}
use Rattle.flatten.specs.Forms.{form_at}
use Rattle.flatten.proofs.Laws.{number_few, leaf_laid, node_laid}
use Rattle.flatten.proofs.+lay.Goals as goal

pub put-requires-clause-room : goal.put-requires-clause-room
put-requires-clause-room t c = omega (arith, c.requires.row_in_bounds.0, some_rows (form_at c.args.table.now c.args.row))

pub put-requires-clause-are_words : goal.put-requires-clause-are_words
put-requires-clause-are_words t c =
    let n = number_few c.requires.sound c.args.row c.requires.row_bound in
    let few : IsWord c.number_of.result = omega (arith, c.number_of.ensures) in
    search rules

pub returns-in-None : goal.returns-in-None
returns-in-None t c = leaf_laid c.in-None.ensures c.number_of.ensures c.put.ensures

pub returns-in-Some : goal.returns-in-Some
returns-in-Some t c =
    node_laid c.in-Some.ensures c.lay-middle.ensures c.lay-end.ensures c.word.ensures.value c.put-in-Some.ensures c.requires.row_in_bounds.0
