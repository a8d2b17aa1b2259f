-- A walk over a plan that makes its list, with what comes after it.
use Rattle.std.specs.Prelude.{ℕ, Bool, not, ◌||◌, List, [], ◌∷◌, ◌++◌, eqb, if◌then◌else◌}
use Rattle.std.specs.Int.Bits.{bit_and}
use Rattle.rules.specs.declared.Product.{Product}
use Rattle.rules.specs.Choices.{joined}
use Rattle.laws.specs.Plans.{Plan, with_it, without, either, both, only, except}
use Rattle.rows.specs.Masks.{span}
use Rattle.repeats.specs.Repeats.{stale}

-- some chosen primitive is out of reach
abbrev pub dead : Product → ℕ → Bool
dead c R = not (eqb (bit_and c.plain R) c.plain)

-- what comes after a part, by what is chosen and the reach that is left
abbrev pub Rest : Type 0
Rest = Product → ℕ → List Product

module _ (meets : List ℕ) (seen : ℕ) where
  abbrev spans : Plan → ℕ
  spans = span meets seen

  -- left before right in an `either`; in a `both` right before left, and only where the right part is no repeat
  unfoldable pub walk : Plan → Product → ℕ → Rest → List Product
  walk (with_it i) c R k = if dead c (bit_and R (spans (with_it i))) then [] else k (joined c (only i)) (bit_and R (spans (with_it i)))
  walk (without i) c R k = if dead c (bit_and R (spans (without i))) then [] else k (joined c (except i)) (bit_and R (spans (without i)))
  walk (either a b) c R k = if dead c (bit_and R (spans (either a b))) then [] else (walk a c (bit_and R (spans (either a b))) k ++ walk b c (bit_and R (spans (either a b))) k)
  walk (both a b) c R k =
      if dead c (bit_and R (spans (both a b))) then [] else walk b c (bit_and R (spans (both a b))) (λ x r. if stale b x.plain x.cuts r then [] else walk a x r k)

-- at the end: the product, unless it is dead or a repeat
abbrev pub finish : Plan → Rest
finish p c R = if dead c R || stale p c.plain c.cuts R then [] else (record { plain = c.plain; cuts = bit_and c.cuts R } ∷ [])
