-- A way of choosing with its side worked in: what is chosen, or left out, or either of two, or both. Each law about choices then has four cases.
use Rattle.std.specs.Prelude.{ℕ, ◌+◌, ◌-◌, ◌*◌, ◌/◌, ◌%◌, ◌^◌, Bool, true, false, not, ◌&&◌, ◌||◌, List, [], ◌∷◌, ◌++◌, ◌≡◌, eqb, ltb, if◌then◌else◌}
use Rattle.std.specs.Int.Bits.{bit_and, bit_or}
use Rattle.rules.specs.declared.Product.{Product}
use Rattle.rules.specs.Tree.{Tree, solid, union, inter, diff}
use Rattle.rules.specs.Choices.{Side, in_of, out_of, joined, ◌crossed_with◌}

pub data Plan : Type 0 where
  with_it without : ℕ → Plan
  either both : Plan → Plan → Plan

unfoldable pub plan : Side → Tree → Plan
plan in_of (solid i s) = with_it i
plan out_of (solid i s) = without i
plan in_of (union left right) = either (plan in_of left) (plan in_of right)
plan out_of (union left right) = both (plan out_of left) (plan out_of right)
plan in_of (inter left right) = both (plan in_of left) (plan in_of right)
plan out_of (inter left right) = either (plan out_of left) (plan out_of right)
plan in_of (diff left right) = both (plan in_of left) (plan out_of right)
plan out_of (diff left right) = either (plan out_of left) (plan in_of right)

abbrev pub only : ℕ → Product
only i = record { plain = 2 ^ i; cuts = 0 }

abbrev pub except : ℕ → Product
except i = record { plain = 0; cuts = 2 ^ i }

-- what is read past the last choice
abbrev pub nothing : Product
nothing = record { plain = 0; cuts = 0 }

-- the choices of a plan, in order; how many; the k-th
unfoldable pub ways : Plan → List Product
ways (with_it i) = only i ∷ []
ways (without i) = except i ∷ []
ways (either a b) = ways a ++ ways b
ways (both a b) = ways a crossed_with ways b

unfoldable pub count : Plan → ℕ
count (with_it i) = 1
count (without i) = 1
count (either a b) = count a + count b
count (both a b) = count a * count b

unfoldable pub kth : Plan → ℕ → Product
kth (with_it i) k = only i
kth (without i) k = except i
kth (either a b) k = if ltb k (count a) then kth a k else kth b (k - count a)
kth (both a b) k = joined (kth a (k % count a)) (kth b (k / count a))

-- the primitives of a plan; that no primitive stands in it twice
unfoldable pub mask : Plan → ℕ
mask (with_it i) = 2 ^ i
mask (without i) = 2 ^ i
mask (either a b) = bit_or (mask a) (mask b)
mask (both a b) = bit_or (mask a) (mask b)

unfoldable pub Apart : Plan → Type 0
Apart (with_it i) = Unit {0}
Apart (without i) = Unit {0}
Apart (either a b) = (bit_and (mask a) (mask b) ≡ 0) × (Apart a × Apart b)
Apart (both a b) = (bit_and (mask a) (mask b) ≡ 0) × (Apart a × Apart b)

-- within a set of primitives, some choice comes to nothing; and this one does
unfoldable pub blank : Plan → ℕ → Bool
blank (with_it i) reach = false
blank (without i) reach = eqb (bit_and (2 ^ i) reach) 0
blank (either a b) reach = blank a reach || blank b reach
blank (both a b) reach = blank a reach && blank b reach

abbrev pub hollow : Product → ℕ → Bool
hollow c reach = eqb c.plain 0 && eqb (bit_and c.cuts reach) 0

-- no earlier choice comes to the same as the k-th: only an `either` can hold two such, a hollow one on each side
unfoldable pub fresh : Plan → ℕ → ℕ → Bool
fresh (with_it i) k reach = true
fresh (without i) k reach = true
fresh (either a b) k reach =
    if ltb k (count a) then fresh a k reach else fresh b (k - count a) reach && not (hollow (kth b (k - count a)) reach && blank a reach)
fresh (both a b) k reach = fresh a (k % count a) reach && fresh b (k / count a) reach
