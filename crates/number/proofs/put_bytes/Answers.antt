use Prim.Native.Nat.{ℕ, ◌+◌}
use native.Mathlib.Omega.{arith}
use mathlib.Core.Path.{◌≡◌, subst}
use lib.ListN.{length}
use Rattle.number.specs.Writing.{Put}
use Rattle.number.proofs.Writing.{put_size, none_copied, one_copied, all_copied}
use Rattle.number.proofs.put_bytes.Goals as goal

pub loop-i-init : goal.loop-i-init
loop-i-init c = none_copied c.args.text.now c.args.at c.args.bytes.now

pub bounds-text-at : goal.bounds-text-at
bounds-text-at c = omega (arith, put_size c.loop-i.invariant.put)

pub loop-i-preserved : goal.loop-i-preserved
loop-i-preserved c = one_copied c.loop-i.invariant (omega arith)

pub returns : goal.returns
returns c =
    let end : c.loop-i.i ≡ length c.args.bytes.now = omega arith in
    subst (λ (i : ℕ). Put c.args.text.now c.args.at c.args.bytes.now c.loop-i.text (c.args.at + i)) end (all_copied c.loop-i.invariant (omega arith))
