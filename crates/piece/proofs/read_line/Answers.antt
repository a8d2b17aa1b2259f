use native.Mathlib.Omega.{arith}
use mathlib.Core.Path.{refl, ◌∙◌}
use lib.ListN.{length-set, length-drop}
use lib.Seq.{length-take-le}
use Rattle.laws.proofs.TextLengths.{few_named}
use Rattle.piece.proofs.ReadPieces.{line_read, word_0, row_put}
use Rattle.piece.proofs.read_line.Goals as goal

pub returns : goal.returns
returns c =
    let few = few_named c.in_ok-name.name.value in
    let named = c.named_words-named.ensures in
    let places = c.read_fields.auto.places
    ∙ length-take-le _ _ (simp (length-drop, length-set) (omega (arith, c.requires.room, few, named))) in
    let words = c.read_fields.new.places in
    line_read c.args.text.now c.args.at c.in_ok-name.ensures words (omega (arith, places, named)) c.in_ok-fields.ensures c.args.table.now _
    c.read_bytes.result c.read_bytes.ensures
    (row_put c.args.table.now (word_0 c.in_ok-name.name.value c.number.ensures) (omega (arith, c.requires.room, few, named, places)) refl (omega (arith, places)))
