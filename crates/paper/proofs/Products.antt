-- The products of a tree in normal form are its choices; so those of the finished tree are the choices of the one that it was made from, and its leaves
-- are counted by them. Assumes nothing.
use Prim.Native.Nat.{ℕ, ◌*◌, ◌≤◌}
use mathlib.Core.Bool.{Bool, true, false, ◌&&◌}
use mathlib.Core.List.{List, [], ◌∷◌, ◌++◌}
use mathlib.Core.Path.{◌≡◌, refl, sym, ap, ap₂, ◌∙◌}
use native.Mathlib.Omega.{arith}
use Rattle.ground.proofs.Branches.{and_left, and_right}
use Rattle.rules.specs.declared.Product.{Product}
use Rattle.rules.specs.Choices.{joined}
use Rattle.rules.specs.Form.{Form, leaf, ◌∪◌, ◌∩◌, ◌∖◌, leaves}
use Rattle.rules.specs.Procedure.{is_primitive}
use Rattle.rules.specs.NormalForm.{is_product, is_normal, product_of, products_of}
use Rattle.laws.specs.Plans.{only, except}
use Rattle.paper.specs.Ways.{cross, Joins, ways, plus, count, sum, total}
use Rattle.paper.specs.Runs.{Runs}
use Rattle.paper.proofs.Crossing.{adds, leaves_total, total_le}
use Rattle.paper.proofs.Running.{runs_ways, runs_normal}

and_both : (a b : Bool) → (a && b) ≡ true → (a ≡ true) × (b ≡ true)
and_both a b e = (and_left a b e, and_right a b e)

the_leaf : (Y : Form) → is_primitive Y ≡ true → (i : ℕ) × (Y ≡ leaf i)
unfolding is_primitive
the_leaf (leaf i) e = (i, refl)
the_leaf (A ∪ B) e = let z : ◌≡◌ {A = Bool} false true = e in (0, cc)
the_leaf (A ∩ B) e = let z : ◌≡◌ {A = Bool} false true = e in (0, cc)
the_leaf (A ∖ B) e = let z : ◌≡◌ {A = Bool} false true = e in (0, cc)

-- the choices in a tree
abbrev chosen : Form → List Product
chosen T = ways joined only except T true

meet_way : (X Y : Form) → chosen X ≡ product_of X ∷ [] → is_primitive Y ≡ true → chosen (X ∩ Y) ≡ product_of (X ∩ Y) ∷ []
unfolding ways product_of
meet_way X Y e y =
    let i = the_leaf Y y in
    ap (λ (T : Form). chosen (X ∩ T)) i.1 ∙ ap (λ (l : List Product). cross joined l (only i.0 ∷ [])) e
    ∙ ap (λ (T : Form). joined (product_of X) (product_of T) ∷ []) (sym i.1)

less_way : (X Y : Form) → chosen X ≡ product_of X ∷ [] → is_primitive Y ≡ true → chosen (X ∖ Y) ≡ product_of (X ∖ Y) ∷ []
unfolding ways product_of
less_way X Y e y =
    let i = the_leaf Y y in
    ap (λ (T : Form). chosen (X ∖ T)) i.1 ∙ ap (λ (l : List Product). cross joined l (except i.0 ∷ [])) e
    ∙ ap (λ (T : Form). product_of (X ∖ T) ∷ []) (sym i.1)

leaf_way : (i : ℕ) → chosen (leaf i) ≡ product_of (leaf i) ∷ []
unfolding ways product_of
leaf_way i = refl

union_ways : (X Y : Form) → chosen (X ∪ Y) ≡ chosen X ++ chosen Y
unfolding ways
union_ways X Y = refl

one_way : (T : Form) → is_product T ≡ true → chosen T ≡ product_of T ∷ []
unfolding is_product
one_way (leaf i) h = leaf_way i
one_way (X ∪ Y) h = let z : ◌≡◌ {A = Bool} false true = h in (cc)
one_way (X ∩ Y) h = let b = and_both (is_product X) (is_primitive Y) h in meet_way X Y (one_way X b.0) b.1
one_way (X ∖ Y) h = let b = and_both (is_product X) (is_primitive Y) h in less_way X Y (one_way X b.0) b.1

normal_ways : (T : Form) → is_normal T ≡ true → chosen T ≡ products_of T
unfolding is_normal products_of
normal_ways (leaf i) h = leaf_way i
normal_ways (X ∪ Y) h =
    let b = and_both (is_normal X) (is_normal Y) h in union_ways X Y ∙ ap₂ (λ (k l : List Product). k ++ l) (normal_ways X b.0) (normal_ways Y b.1)
normal_ways (X ∩ Y) h = let b = and_both (is_product X) (is_primitive Y) h in meet_way X Y (one_way X b.0) b.1
normal_ways (X ∖ Y) h = let b = and_both (is_product X) (is_primitive Y) h in less_way X Y (one_way X b.0) b.1

-- THE PRODUCTS OF THE FINISHED TREE ARE THE CHOICES OF THE ONE IT BEGAN WITH, in order, each as often
pub runs_products : Joins Product joined → {T N : Form} → Runs T N → products_of N ≡ chosen T
runs_products J {T} {N} r = sym (normal_ways N (runs_normal r)) ∙ sym (runs_ways joined J only except r)

-- no run comes to more leaves than these
pub runs_room : {T N : Form} → Runs T N → leaves N ≤ leaves T * count T true
runs_room {T} {N} r =
    let e : total T true ≡ total N true = ap sum (runs_ways plus adds (λ i. 1) (λ i. 1) r) in
    omega (arith, leaves_total N, total_le T)
