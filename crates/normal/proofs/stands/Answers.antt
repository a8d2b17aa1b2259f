-- Whether that operation stands there. Assumes nothing.
use Prim.Native.Nat.{ℕ}
use mathlib.Core.Bool.{false}
use mathlib.Core.Path.{◌≡◌, refl, sym, ap, ◌∙◌}
use denote.Enum.Bare.{sameb}
use Rattle.rules.specs.Form.{Form, leaf, ◌∪◌, ◌∩◌, ◌∖◌}
use Rattle.moves.specs.contracts.Operation.{the_type}
use Rattle.moves.specs.declared.Operation.{Operation}
use Rattle.moves.specs.declared.Operation.TheVariants.{Union, Inter, Diff}
use Rattle.normal.specs.declared.Top.TheVariants.{Primitive, Node}
use Rattle.normal.specs.Prefix.{top, has_top}
use Rattle.normal.proofs.stands.Goals as goal

union_same : (X Y : Form) (o : Operation) → sameb the_type Union o ≡ has_top o (X ∪ Y)
union_same X Y Union = refl
union_same X Y Inter = refl
union_same X Y Diff = refl

inter_same : (X Y : Form) (o : Operation) → sameb the_type Inter o ≡ has_top o (X ∩ Y)
inter_same X Y Union = refl
inter_same X Y Inter = refl
inter_same X Y Diff = refl

diff_same : (X Y : Form) (o : Operation) → sameb the_type Diff o ≡ has_top o (X ∖ Y)
diff_same X Y Union = refl
diff_same X Y Inter = refl
diff_same X Y Diff = refl

node_same : (T : Form) (p o : Operation) → Node p ≡ top T → sameb the_type p o ≡ has_top o T
node_same (leaf i) p o e = cc
node_same (X ∪ Y) p o e = let f : Union ≡ p = cc in ap (λ (q : Operation). sameb the_type q o) (sym f) ∙ union_same X Y o
node_same (X ∩ Y) p o e = let f : Inter ≡ p = cc in ap (λ (q : Operation). sameb the_type q o) (sym f) ∙ inter_same X Y o
node_same (X ∖ Y) p o e = let f : Diff ≡ p = cc in ap (λ (q : Operation). sameb the_type q o) (sym f) ∙ diff_same X Y o

leaf_same : (i : ℕ) (o : Operation) → false ≡ has_top o (leaf i)
leaf_same i Union = refl
leaf_same i Inter = refl
leaf_same i Diff = refl

primitive_same : (T : Form) (i : ℕ) (o : Operation) → Primitive i ≡ top T → false ≡ has_top o T
primitive_same (leaf j) i o e = leaf_same j o
primitive_same (X ∪ Y) i o e = cc
primitive_same (X ∩ Y) i o e = cc
primitive_same (X ∖ Y) i o e = cc

pub returns-in-Node : goal.returns-in-Node
returns-in-Node c = λ T h. c.eq.ensures ∙ node_same T c.in-Node.other c.args.operation (c.in-Node.ensures T h)

pub returns-in-Primitive : goal.returns-in-Primitive
returns-in-Primitive c = λ T h. primitive_same T c.in-Primitive.field-0 c.args.operation (c.in-Primitive.ensures T h)
