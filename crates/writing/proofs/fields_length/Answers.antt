use Prim.Native.Nat.{◌+◌}
use native.Mathlib.Omega.{arith}
use mathlib.Core.List.{flat_map}
use mathlib.Core.Path.{refl}
use mir.Syntax.{w32}
use Rattle.ground.specs.Lists.{from}
use Rattle.ground.proofs.Signed.{read}
use Rattle.laws.proofs.TextLengths.{few_named}
use Rattle.writing.specs.Writing.{fields_to}
use Rattle.writing.proofs.Written.{fields_few, one_longer}
use Rattle.writing.proofs.fields_length.Goals as goal

pub loop-k-init : goal.loop-k-init
unfolding fields_to from flat_map
loop-k-init c = refl

pub overflow_add-size : goal.overflow_add-size
overflow_add-size c =
    let t = c.args.table.now in
    let k = c.loop-k.k in
    let more = one_longer t c.args.row k c.loop-k.invariant c.number_length.ensures (read w32 c.word.type_inv c.word.ensures) in
    omega (arith, fields_few t c.args.row (k + 1), more, few_named c.args.kind, c.named_words-words.ensures)

pub overflow_add-size-in-loop-k : goal.overflow_add-size-in-loop-k
overflow_add-size-in-loop-k c =
    let t = c.args.table.now in
    let k = c.loop-k.k in
    let more = one_longer t c.args.row k c.loop-k.invariant c.number_length.ensures (read w32 c.word.type_inv c.word.ensures) in
    record { fits = omega (arith, fields_few t c.args.row (k + 1), more, few_named c.args.kind, c.named_words-words.ensures) }

pub loop-k-preserved : goal.loop-k-preserved
loop-k-preserved c =
    one_longer c.args.table.now c.args.row c.loop-k.k c.loop-k.invariant c.number_length.ensures (read w32 c.word.type_inv c.word.ensures)
