use native.Mathlib.Omega.{arith}
use mathlib.Core.Bool.{Bool, true, false, ◌||◌}
use mathlib.Core.Path.{◌≡◌, refl}
use borrow.Author.Tests.{leb-true, ltb-true}
use lib.Dec.{leb, ltb}
use Rattle.ground.proofs.Branches.{false_true}
use Rattle.level.proofs.Sets.{past, short, never}
use Rattle.along.proofs.misses.Goals as goal

-- what follows from each of three tests follows where one of them holds
one_of_three : {X : Type 0} (a b c : Bool) → (a ≡ true → X) → (b ≡ true → X) → (c ≡ true → X) → ((a || b) || c) ≡ true → X
one_of_three true b c f g h e = f refl
one_of_three false true c f g h e = g refl
one_of_three false false true f g h e = h refl
one_of_three false false false f g h e = false_true e

pub returns : goal.returns
returns c = λ one v low high.
    let a = c.args in
    let s = a.s in
    one_of_three (ltb s.hi a.from) (leb a.to s.lo) (ltb s.hi s.lo)
    (λ h. past s v (omega (arith, ltb-true s.hi a.from h, low))) (λ h. short s v (omega (arith, leb-true a.to s.lo h, high)))
    (λ h. never s v (ltb-true s.hi s.lo h)) one
