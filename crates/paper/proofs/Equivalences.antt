-- Each of the nine equivalences keeps the points and loses no leaf; `lowest` is the lowest that fits. Assumes nothing.
use Prim.Native.Nat.{ℕ, ◌≤◌}
use mathlib.Core.Bool.{Bool, true, false, not, ◌&&◌, ◌||◌}
use mathlib.Core.Option.{Option, none, some}
use mathlib.Core.Path.{◌≡◌, refl}
use native.Mathlib.Omega.{arith}
use Rattle.rules.specs.Form.{Form, leaf, ◌∪◌, ◌∩◌, ◌∖◌, holds_at, leaves}
use Rattle.rules.specs.Form.{Rule, rule1, rule2, rule3, rule4, rule5, rule6, rule65, rule7, rule8}
use Rattle.rules.specs.Procedure.{lowest}

-- ---- the points: two ways of asking three sets agree where they agree in each of the eight cases
abbrev Asks : Type 0
Asks = Bool → Bool → Bool → Bool

abbrev Cases : Asks → Asks → Type 0
Cases f g =
    (f true true true ≡ g true true true) × (f true true false ≡ g true true false)
    × (f true false true ≡ g true false true) × (f true false false ≡ g true false false)
    × (f false true true ≡ g false true true) × (f false true false ≡ g false true false)
    × (f false false true ≡ g false false true) × (f false false false ≡ g false false false)

by_cases : (f g : Asks) → Cases f g → (a b c : Bool) → f a b c ≡ g a b c
by_cases f g e true true true = e.0
by_cases f g e true true false = e.1
by_cases f g e true false true = e.2
by_cases f g e true false false = e.3
by_cases f g e false true true = e.4
by_cases f g e false true false = e.5
by_cases f g e false false true = e.6
by_cases f g e false false false = e.7

-- in the order of figure 2, and 6.5
at_1 : (x y z : Bool) → (x && not (y || z)) ≡ ((x && not y) && not z)
at_1 = by_cases (λ x y z. x && not (y || z)) (λ x y z. (x && not y) && not z) (refl, refl, refl, refl, refl, refl, refl, refl)

at_2 : (x y z : Bool) → (x && (y || z)) ≡ ((x && y) || (x && z))
at_2 = by_cases (λ x y z. x && (y || z)) (λ x y z. (x && y) || (x && z)) (refl, refl, refl, refl, refl, refl, refl, refl)

at_3 : (x y z : Bool) → (x && not (y && z)) ≡ ((x && not y) || (x && not z))
at_3 = by_cases (λ x y z. x && not (y && z)) (λ x y z. (x && not y) || (x && not z)) (refl, refl, refl, refl, refl, refl, refl, refl)

at_4 : (x y z : Bool) → (x && (y && z)) ≡ ((x && y) && z)
at_4 = by_cases (λ x y z. x && (y && z)) (λ x y z. (x && y) && z) (refl, refl, refl, refl, refl, refl, refl, refl)

at_5 : (x y z : Bool) → (x && not (y && not z)) ≡ ((x && not y) || (x && z))
at_5 = by_cases (λ x y z. x && not (y && not z)) (λ x y z. (x && not y) || (x && z)) (refl, refl, refl, refl, refl, refl, refl, refl)

at_6 : (x y z : Bool) → (x && (y && not z)) ≡ ((x && y) && not z)
at_6 = by_cases (λ x y z. x && (y && not z)) (λ x y z. (x && y) && not z) (refl, refl, refl, refl, refl, refl, refl, refl)

at_65 : (x y z : Bool) → ((x && not y) && z) ≡ ((x && z) && not y)
at_65 = by_cases (λ x y z. (x && not y) && z) (λ x y z. (x && z) && not y) (refl, refl, refl, refl, refl, refl, refl, refl)

at_7 : (x y z : Bool) → ((x || y) && not z) ≡ ((x && not z) || (y && not z))
at_7 = by_cases (λ x y z. (x || y) && not z) (λ x y z. (x && not z) || (y && not z)) (refl, refl, refl, refl, refl, refl, refl, refl)

at_8 : (x y z : Bool) → ((x || y) && z) ≡ ((x && z) || (y && z))
at_8 = by_cases (λ x y z. (x || y) && z) (λ x y z. (x && z) || (y && z)) (refl, refl, refl, refl, refl, refl, refl, refl)

-- EACH KEEPS THE SET OF POINTS
pub rule_points : {k : ℕ} {T U : Form} → Rule k T U → (p : ℕ → Bool) → holds_at p T ≡ holds_at p U
unfolding holds_at
rule_points (rule1 {X} {Y} {Z}) p = at_1 (holds_at p X) (holds_at p Y) (holds_at p Z)
rule_points (rule2 {X} {Y} {Z}) p = at_2 (holds_at p X) (holds_at p Y) (holds_at p Z)
rule_points (rule3 {X} {Y} {Z}) p = at_3 (holds_at p X) (holds_at p Y) (holds_at p Z)
rule_points (rule4 {X} {Y} {Z}) p = at_4 (holds_at p X) (holds_at p Y) (holds_at p Z)
rule_points (rule5 {X} {Y} {Z}) p = at_5 (holds_at p X) (holds_at p Y) (holds_at p Z)
rule_points (rule6 {X} {Y} {Z}) p = at_6 (holds_at p X) (holds_at p Y) (holds_at p Z)
rule_points (rule65 {X} {Y} {Z}) p = at_65 (holds_at p X) (holds_at p Y) (holds_at p Z)
rule_points (rule7 {X} {Y} {Z}) p = at_7 (holds_at p X) (holds_at p Y) (holds_at p Z)
rule_points (rule8 {X} {Y} {Z}) p = at_8 (holds_at p X) (holds_at p Y) (holds_at p Z)

-- EACH LOSES NO LEAF
pub rule_leaves : {k : ℕ} {T U : Form} → Rule k T U → leaves T ≤ leaves U
unfolding leaves
rule_leaves (rule1 {X} {Y} {Z}) = omega arith
rule_leaves (rule2 {X} {Y} {Z}) = omega arith
rule_leaves (rule3 {X} {Y} {Z}) = omega arith
rule_leaves (rule4 {X} {Y} {Z}) = omega arith
rule_leaves (rule5 {X} {Y} {Z}) = omega arith
rule_leaves (rule6 {X} {Y} {Z}) = omega arith
rule_leaves (rule65 {X} {Y} {Z}) = omega arith
rule_leaves (rule7 {X} {Y} {Z}) = omega arith
rule_leaves (rule8 {X} {Y} {Z}) = omega arith

-- ---- the lowest that fits
abbrev pub Least : ℕ → Form → Type 0
Least k T = (j : ℕ) (W : Form) → Rule j T W → k ≤ j

abbrev pub NoRule : Form → Type 0
NoRule T = (k : ℕ) (U : Form) → Rule k T U → ⊥

-- what `lowest` is: a rule, and no rule of a lower number fits; or none, and no rule fits
abbrev pub Lowest : Form → Option Form → Type 0
Lowest T none = NoRule T
Lowest T (some U) = (k : ℕ) × Rule k T U × Least k T

least_1 : {X Y Z : Form} → Least 10 (X ∖ (Y ∪ Z))
least_1 j W rule1 = omega arith
least_1 j W rule7 = omega arith

least_2 : {X Y Z : Form} → Least 20 (X ∩ (Y ∪ Z))
least_2 j W rule2 = omega arith
least_2 j W rule65 = omega arith
least_2 j W rule8 = omega arith

least_3 : {X Y Z : Form} → Least 30 (X ∖ (Y ∩ Z))
least_3 j W rule3 = omega arith
least_3 j W rule7 = omega arith

least_4 : {X Y Z : Form} → Least 40 (X ∩ (Y ∩ Z))
least_4 j W rule4 = omega arith
least_4 j W rule65 = omega arith
least_4 j W rule8 = omega arith

least_5 : {X Y Z : Form} → Least 50 (X ∖ (Y ∖ Z))
least_5 j W rule5 = omega arith
least_5 j W rule7 = omega arith

least_6 : {X Y Z : Form} → Least 60 (X ∩ (Y ∖ Z))
least_6 j W rule6 = omega arith
least_6 j W rule65 = omega arith
least_6 j W rule8 = omega arith

least_65 : {X Y : Form} {i : ℕ} → Least 65 ((X ∖ Y) ∩ leaf i)
least_65 j W rule65 = omega arith

least_7 : {X Y : Form} {i : ℕ} → Least 70 ((X ∪ Y) ∖ leaf i)
least_7 j W rule7 = omega arith

least_8 : {X Y : Form} {i : ℕ} → Least 80 ((X ∪ Y) ∩ leaf i)
least_8 j W rule8 = omega arith

none_at_leaf : {i : ℕ} → NoRule (leaf i)
none_at_leaf k U h = elim h [ ]

none_at_union : {X Y : Form} → NoRule (X ∪ Y)
none_at_union k U h = elim h [ ]

none_at_leaf_∩ : {i j : ℕ} → NoRule (leaf j ∩ leaf i)
none_at_leaf_∩ k U h = elim h [ ]

none_at_∩_∩ : {X Y : Form} {i : ℕ} → NoRule ((X ∩ Y) ∩ leaf i)
none_at_∩_∩ k U h = elim h [ ]

none_at_leaf_∖ : {i j : ℕ} → NoRule (leaf j ∖ leaf i)
none_at_leaf_∖ k U h = elim h [ ]

none_at_∩_∖ : {X Y : Form} {i : ℕ} → NoRule ((X ∩ Y) ∖ leaf i)
none_at_∩_∖ k U h = elim h [ ]

none_at_∖_∖ : {X Y : Form} {i : ℕ} → NoRule ((X ∖ Y) ∖ leaf i)
none_at_∖_∖ k U h = elim h [ ]

-- `lowest` IS THE LOWEST THAT FITS
pub the_lowest : (T : Form) → Lowest T (lowest T)
unfolding lowest
the_lowest (leaf i) = none_at_leaf
the_lowest (X ∪ Y) = none_at_union
the_lowest (X ∖ (Y ∪ Z)) = (10, rule1, least_1)
the_lowest (X ∩ (Y ∪ Z)) = (20, rule2, least_2)
the_lowest (X ∖ (Y ∩ Z)) = (30, rule3, least_3)
the_lowest (X ∩ (Y ∩ Z)) = (40, rule4, least_4)
the_lowest (X ∖ (Y ∖ Z)) = (50, rule5, least_5)
the_lowest (X ∩ (Y ∖ Z)) = (60, rule6, least_6)
the_lowest ((X ∖ Y) ∩ leaf i) = (65, rule65, least_65)
the_lowest ((X ∪ Y) ∖ leaf i) = (70, rule7, least_7)
the_lowest ((X ∪ Y) ∩ leaf i) = (80, rule8, least_8)
the_lowest (leaf j ∩ leaf i) = none_at_leaf_∩
the_lowest ((X ∩ Y) ∩ leaf i) = none_at_∩_∩
the_lowest (leaf j ∖ leaf i) = none_at_leaf_∖
the_lowest ((X ∩ Y) ∖ leaf i) = none_at_∩_∖
the_lowest ((X ∖ Y) ∖ leaf i) = none_at_∖_∖
