use Prim.Native.Nat.{ℕ}
use mathlib.Core.List.{List}
use mathlib.Core.Path.{subst}
use Rattle.piece.proofs.ReadPieces.{NoBytes, Bytes, not_named, is_named}
use Rattle.piece.proofs.try_name.Goals as goal

pub returns-in_err-next : goal.returns-in_err-next
returns-in_err-next c =
    rw c.from_residual.ensures
    (not_named c.args.text.now c.args.at c.args.kind
    (subst (λ (bytes : List ℕ). NoBytes bytes c.args.text.now c.args.at) c.kind_name.ensures c.in_err-next.ensures))

pub returns : goal.returns
returns c =
    is_named c.args.text.now c.args.at c.args.kind
    (subst (λ (bytes : List ℕ). Bytes bytes c.args.text.now c.args.at c.in_ok-next.next) c.kind_name.ensures c.in_ok-next.ensures)
