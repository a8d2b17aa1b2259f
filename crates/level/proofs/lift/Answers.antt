use native.Mathlib.Omega.{arith}
use mathlib.Core.Bool.{true, false}
use Rattle.level.proofs.Sets.{has, past, short, never, steady_by}
use Rattle.level.proofs.lift.Goals as goal

-- an empty stretch has no place
pub returns-then-s : goal.returns-then-s
returns-then-s c = steady_by c.args.s false (omega arith) c.requires (λ w a b. never c.args.s w c.if-s.true)

pub returns-then-s-v : goal.returns-then-s-v
returns-then-s-v c =
    steady_by c.args.s false (omega (arith, c.max.ensures)) (omega (arith, c.max.ensures)) (λ w a b. past c.args.s w (omega (arith, c.max.ensures)))

pub returns-then-v-s : goal.returns-then-v-s
returns-then-v-s c = steady_by c.args.s false (omega arith) c.requires (λ w a b. short c.args.s w (omega arith))

pub returns : goal.returns
returns c = steady_by c.args.s true (omega (arith, c.max-2.ensures)) (omega (arith, c.max-2.ensures)) (λ w a b. has c.args.s w (omega (arith, c.max-2.ensures)) (omega arith))
