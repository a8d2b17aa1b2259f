-- A rule that is taken is the lowest that fits; it keeps the ways of choosing, in their order, and the depth, and it lowers the weight. Assumes nothing.
use Prim.Native.Nat.{ℕ, ◌+◌, ◌*◌, ◌≤◌, ◌<◌}
use mathlib.Core.Bool.{Bool, true, false}
use mathlib.Core.Option.{Option, some}
use mathlib.Core.Path.{◌≡◌, refl, ap, subst, ◌∙◌}
use native.Mathlib.Nat.{mul-add, add-mul, mul_assoc, le_refl, mul-le-mul_right}
use native.Mathlib.Omega.{arith}
use Rattle.rules.specs.Form.{Form, leaf, ◌∪◌, ◌∩◌, ◌∖◌, Rule}
use Rattle.rules.specs.Procedure.{lowest}
use Rattle.paper.specs.Ways.{Joins, ways}
use Rattle.paper.specs.Runs.{Taken, t1, t2, t3, t4, t5, t6, t65, t7, t8}
use Rattle.paper.specs.Measures.{weight, high}
use Rattle.paper.proofs.Crossing.{cross_append, cross_assoc, cross_swap, append_cross}
use Rattle.paper.proofs.Equivalences.{Least, Lowest, the_lowest}

pub taken_lowest : {T U : Form} → Taken T U → lowest T ≡ some U
unfolding lowest
taken_lowest t1 = refl
taken_lowest t2 = refl
taken_lowest t3 = refl
taken_lowest t4 = refl
taken_lowest t5 = refl
taken_lowest t6 = refl
taken_lowest t65 = refl
taken_lowest t7 = refl
taken_lowest t8 = refl

pub taken_rule : {T U : Form} → Taken T U → (k : ℕ) × Rule k T U × Least k T
taken_rule {T} {U} t = subst (λ (o : Option Form). Lowest T o) (taken_lowest t) (the_lowest T)

-- ---- the ways of choosing, whatever they are made of
module _ {A : Type 0} (join : A → A → A) (J : Joins A join) (plain cut : ℕ → A) where
  pub taken_ways : {T U : Form} → Taken T U → ways join plain cut T true ≡ ways join plain cut U true
  unfolding ways
  taken_ways (t1 {X} {Y} {Z}) = cross_assoc join J (ways join plain cut X true) (ways join plain cut Y false) (ways join plain cut Z false)
  taken_ways (t2 {X} {Y} {Z}) = cross_append join (ways join plain cut X true) (ways join plain cut Y true) (ways join plain cut Z true)
  taken_ways (t3 {X} {Y} {Z}) = cross_append join (ways join plain cut X true) (ways join plain cut Y false) (ways join plain cut Z false)
  taken_ways (t4 {X} {Y} {Z}) = cross_assoc join J (ways join plain cut X true) (ways join plain cut Y true) (ways join plain cut Z true)
  taken_ways (t5 {X} {Y} {Z}) = cross_append join (ways join plain cut X true) (ways join plain cut Y false) (ways join plain cut Z true)
  taken_ways (t6 {X} {Y} {Z}) = cross_assoc join J (ways join plain cut X true) (ways join plain cut Y true) (ways join plain cut Z false)
  taken_ways (t65 {X} {Y} {i}) = cross_swap join J (ways join plain cut X true) (ways join plain cut Y false) (plain i)
  taken_ways (t7 {X} {Y} {i}) = append_cross join J (ways join plain cut X true) (ways join plain cut Y true) (cut i)
  taken_ways (t8 {X} {Y} {i}) = append_cross join J (ways join plain cut X true) (ways join plain cut Y true) (plain i)

-- ---- the depth
pub taken_high : {T U : Form} → Taken T U → high T true ≡ high U true
unfolding high
taken_high (t1 {X} {Y} {Z}) = omega arith
taken_high (t2 {X} {Y} {Z}) = omega arith
taken_high (t3 {X} {Y} {Z}) = omega arith
taken_high (t4 {X} {Y} {Z}) = omega arith
taken_high (t5 {X} {Y} {Z}) = omega arith
taken_high (t6 {X} {Y} {Z}) = omega arith
taken_high (t65 {X} {Y} {i}) = omega arith
taken_high (t7 {X} {Y} {i}) = omega arith
taken_high (t8 {X} {Y} {i}) = omega arith

-- ---- the weight
two_up : (a b c : ℕ) → 2 ≤ b → 1 ≤ c → 2 ≤ (a + c) * b
two_up a b c h k = let m : 1 * b ≤ (a + c) * b = mul-le-mul_right b (omega arith) in omega arith

pub weight_two : (T : Form) (s : Bool) → 2 ≤ weight T s
unfolding weight
weight_two (leaf i) s = le_refl 2
weight_two (X ∪ Y) true = omega arith
weight_two (X ∪ Y) false = two_up (weight X false) (weight Y false) 2 (weight_two Y false) (omega arith)
weight_two (X ∩ Y) true = two_up (weight X true) (weight Y true) 1 (weight_two Y true) (omega arith)
weight_two (X ∩ Y) false = omega arith
weight_two (X ∖ Y) true = two_up (weight X true) (weight Y false) 2 (weight_two Y false) (omega arith)
weight_two (X ∖ Y) false = omega arith

falls_assoc : (x y z a b c : ℕ) → 2 ≤ x → 2 ≤ z → c ≤ b → 1 ≤ b → ((x + a) * y + c) * z < (x + a) * ((y + b) * z)
falls_assoc x y z a b c hx hz hc hb =
    let p : ((x + a) * y + c) * z ≡ (x + a) * y * z + c * z = add-mul ((x + a) * y) c z in
    let q : (x + a) * ((y + b) * z) ≡ (x + a) * (y * z) + (x + a) * (b * z) = ap (λ (n : ℕ). (x + a) * n) (add-mul y b z) ∙ mul-add (x + a) (y * z) (b * z) in
    let r : (x + a) * y * z ≡ (x + a) * (y * z) = mul_assoc (x + a) y z in
    let u : 2 * (b * z) ≤ (x + a) * (b * z) = mul-le-mul_right (b * z) (omega arith) in
    let v : c * z ≤ b * z = mul-le-mul_right z hc in
    let k : 1 * z ≤ b * z = mul-le-mul_right z hb in
    omega arith

falls_sum : (x y z a c : ℕ) → 2 ≤ x → c ≤ a → (x + a) * y + (x + c) * z + 5 < (x + a) * (y + z + 5)
falls_sum x y z a c hx hc =
    let q : (x + a) * (y + z + 5) ≡ (x + a) * y + (x + a) * z + (x + a) * 5 = mul-add (x + a) (y + z) 5 ∙ ap (λ (n : ℕ). n + (x + a) * 5) (mul-add (x + a) y z) in
    let v : (x + c) * z ≤ (x + a) * z = mul-le-mul_right z (omega arith) in
    omega arith

falls_swap : (x y : ℕ) → ((x + 1) * 2 + 2) * y < ((x + 2) * y + 1) * 2
falls_swap x y =
    let p : ((x + 1) * 2 + 2) * y ≡ (2 * (x + 2)) * y = ap (λ (n : ℕ). n * y) (omega arith) in
    let q : (2 * (x + 2)) * y ≡ 2 * ((x + 2) * y) = mul_assoc 2 (x + 2) y in
    omega arith

pub taken_falls : {T U : Form} → Taken T U → weight U true < weight T true
unfolding weight
taken_falls (t1 {X} {Y} {Z}) = falls_assoc (weight X true) (weight Y false) (weight Z false) 2 2 2 (weight_two X true) (weight_two Z false) (omega arith) (omega arith)
taken_falls (t2 {X} {Y} {Z}) = falls_sum (weight X true) (weight Y true) (weight Z true) 1 1 (weight_two X true) (omega arith)
taken_falls (t3 {X} {Y} {Z}) = falls_sum (weight X true) (weight Y false) (weight Z false) 2 2 (weight_two X true) (omega arith)
taken_falls (t4 {X} {Y} {Z}) = falls_assoc (weight X true) (weight Y true) (weight Z true) 1 1 1 (weight_two X true) (weight_two Z true) (omega arith) (omega arith)
taken_falls (t5 {X} {Y} {Z}) = falls_sum (weight X true) (weight Y false) (weight Z true) 2 1 (weight_two X true) (omega arith)
taken_falls (t6 {X} {Y} {Z}) = falls_assoc (weight X true) (weight Y true) (weight Z false) 1 2 2 (weight_two X true) (weight_two Z false) (omega arith) (omega arith)
taken_falls (t65 {X} {Y} {i}) = falls_swap (weight X true) (weight Y false)
taken_falls (t7 {X} {Y} {i}) = omega arith
taken_falls (t8 {X} {Y} {i}) = omega arith
