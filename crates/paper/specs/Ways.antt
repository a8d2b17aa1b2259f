-- The ways of choosing of a tree of numbers, in it and out of it, over any two things that a primitive may stand for and any way of joining them: as sets
-- of primitives they are the choices of the rules, as numbers they count leaves.
use Rattle.std.specs.Prelude.{ℕ, ◌+◌, Bool, true, false, List, [], ◌∷◌, ◌++◌, map, ◌≡◌, length}
use Rattle.rules.specs.Form.{Form, leaf, ◌∪◌, ◌∩◌, ◌∖◌}

-- all of the first for the first of the second, then all of them for the second of it, and so on
abbrev pub cross : {A : Type 0} → (A → A → A) → List A → List A → List A
cross join xs [] = []
cross join xs (y ∷ ys) = map (λ x. join x y) xs ++ cross join xs ys

-- neither the grouping nor the order of what is joined matters
pub record Joins (A : Type 0) (join : A → A → A) : Type 0 where
  pub assoc : (a b c : A) → join (join a b) c ≡ join a (join b c)
  pub comm : (a b : A) → join a b ≡ join b a

-- in a tree (true), and out of it (false)
unfoldable pub ways : {A : Type 0} → (A → A → A) → (ℕ → A) → (ℕ → A) → Form → Bool → List A
ways join plain cut (leaf i) true = plain i ∷ []
ways join plain cut (leaf i) false = cut i ∷ []
ways join plain cut (X ∪ Y) true = ways join plain cut X true ++ ways join plain cut Y true
ways join plain cut (X ∪ Y) false = cross join (ways join plain cut X false) (ways join plain cut Y false)
ways join plain cut (X ∩ Y) true = cross join (ways join plain cut X true) (ways join plain cut Y true)
ways join plain cut (X ∩ Y) false = ways join plain cut X false ++ ways join plain cut Y false
ways join plain cut (X ∖ Y) true = cross join (ways join plain cut X true) (ways join plain cut Y false)
ways join plain cut (X ∖ Y) false = ways join plain cut X false ++ ways join plain cut Y true

-- how many primitives each way names, how many ways there are, and how many primitives they name together
abbrev pub plus : ℕ → ℕ → ℕ
plus a b = a + b

abbrev pub sizes : Form → Bool → List ℕ
sizes T s = ways plus (λ i. 1) (λ i. 1) T s

abbrev pub count : Form → Bool → ℕ
count T s = length (sizes T s)

unfoldable pub sum : List ℕ → ℕ
sum [] = 0
sum (x ∷ xs) = x + sum xs

abbrev pub total : Form → Bool → ℕ
total T s = sum (sizes T s)
