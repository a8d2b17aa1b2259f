use Prim.Native.Nat.{ℕ, ◌+◌}
use native.Mathlib.Omega.{arith}
use mathlib.Core.List.{flat_map}
use mathlib.Core.Path.{sym, ap}
use lib.ListN.{length}
use mir.Syntax.{w32}
use Rattle.ground.specs.Lists.{from}
use Rattle.ground.proofs.Signed.{read}
use Rattle.rules.specs.Table.{word_at}
use Rattle.rules.specs.Text.{field_text}
use Rattle.number.proofs.Writing.{put_same, put_none, put_size}
use Rattle.writing.specs.Writing.{fields_to}
use Rattle.writing.proofs.Writes.{piece_fits, put_next}
use Rattle.writing.proofs.Written.{fields_grow}
use Rattle.writing.proofs.put_fields.Goals as goal

pub loop-k-init : goal.loop-k-init
unfolding fields_to from flat_map
loop-k-init c = put_none c.args.text.now c.args.at

pub put_field-next-requires : goal.put_field-next-requires
put_field-next-requires c =
    let t = c.args.table.now in
    let row = c.args.row in
    let l = c.loop-k in
    let words = c.named_words-words in
    let all = ap (λ (n : ℕ). length (fields_to t row n)) words.ensures in
    let part = piece_fits (fields_to t row) (λ k. field_text (word_at t row (k + 1))) (fields_grow t row) l.k words.result (omega arith) in
    let word = ap field_text (read w32 c.word.type_inv c.word.ensures) in
    omega (arith, c.requires.room, l.invariant.end, put_size l.invariant, ap length word, all, part)

pub loop-k-preserved : goal.loop-k-preserved
loop-k-preserved c =
    let t = c.args.table.now in
    let row = c.args.row in
    let put = put_same (sym (ap field_text (read w32 c.word.type_inv c.word.ensures))) c.put_field-next.ensures in
    put_next (fields_to t row) (λ k. field_text (word_at t row (k + 1))) (fields_grow t row) c.loop-k.k c.loop-k.invariant put
