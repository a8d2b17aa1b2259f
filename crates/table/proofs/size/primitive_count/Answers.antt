use Prim.Native.Nat.{ℕ, ◌+◌, ◌/◌}
use mathlib.Core.Path.{sym, ap, ◌∙◌}
use Rattle.laws.proofs.Apart.{half_primitives}
use Rattle.table.proofs.size.primitive_count.Goals as goal

pub returns : goal.returns
returns c =
    let s = c.before in
    ap (λ (rows : ℕ). (rows + 1) / 2) c.row_count.ensures ∙ sym (half_primitives s.args.table.now s.requires)
