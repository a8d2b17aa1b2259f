use Prim.Native.Nat.{◌<◌, ◌^◌}
use lib.IntN.{pos, nat_abs}
use lib.Signed.{mag}
use mathlib.Core.Path.{ap}
use mir.Syntax.{w64}
use mir.Val.{Fits}
use Rattle.rules.specs.Table.{word_at}
use mathlib.Core.Path.{◌∙◌, subst, sym}
use lib.Dec.{T}
use lib.IntN.{ℤ}
use lib.Signed.{pos-nat_abs, non_neg}
use mir.Syntax.{w32}
use Rattle.ground.proofs.Signed.{read}
use Rattle.table.proofs.Rows.{child_fits}
use Rattle.table.proofs.decode.child.Goals as goal

pub overflow_cast-result : goal.overflow_cast-result
overflow_cast-result c =
    let w = c.word in
    subst (λ (z : ℤ). T (non_neg z) × Fits w64 (nat_abs z)) (sym (read w32 w.type_inv w.ensures))
    (child_fits (word_at c.args.table.now c.args.row c.args.k) (subst (λ (z : ℤ). mag z < 2 ^ 31) w.ensures w.type_inv) c.requires.t)

pub returns : goal.returns
returns c =
    let w = c.word in
    ap (λ (z : ℤ). pos (nat_abs z)) (read w32 w.type_inv w.ensures) ∙ pos-nat_abs (word_at c.args.table.now c.args.row c.args.k) c.requires.t
