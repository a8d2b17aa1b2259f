use Prim.Native.Nat.{◌*◌}
use native.Mathlib.Nat.{mul-le-mul}
use native.Mathlib.Omega.{arith}
use mathlib.Core.Path.{◌≡◌, ap₂, ◌∙◌}
use borrow.Author.Rules.{rules}
use lib.IntN.{ℤ}
use mir.Syntax.{w32}
use mir.Val.{SFits, to_z, of_z}
use mir.ValLaws.{to_z-of_z}
use Rattle.rules.specs.Ranges.{size_of}
use Rattle.waterfall.proofs.words_of.Goals as goal

-- the size of a side whose bounds are read back
side : (lo hi : ℤ) → SFits w32 lo → SFits w32 hi → size_of (record { lo = to_z w32 (of_z w32 lo); hi = to_z w32 (of_z w32 hi) }) ≡ size_of (record { lo = lo; hi = hi })
side lo hi a b = λ i. size_of (record { lo = to_z-of_z w32 lo a i; hi = to_z-of_z w32 hi b i })

pub overflow_mul-result : goal.overflow_mul-result
overflow_mul-result c = record { fits = omega (arith, mul-le-mul c.size.ensures.bounded c.size-2.ensures.bounded) }

pub returns : goal.returns
returns c =
    let columns = c.before.before.before in
    let q = columns.args.q in
    ap₂ ◌*◌ (columns.size.ensures.value ∙ side q.xlo q.xhi (search rules) (search rules)) (c.size-2.ensures.value ∙ side q.ylo q.yhi (search rules) (search rules))
