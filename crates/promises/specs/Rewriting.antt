-- What the rewriting promises: by which rewrites a zone's tree becomes the finished one, and what the finished one is. The rules, the procedure, normal form
-- and its products are those of crates/rules/specs (Form, Procedure, NormalForm).
use Rattle.std.specs.Prelude.{ℕ, ◌≤◌, Bool, true, List, map, ◌≡◌, ℤ, get_or}
use Rattle.ground.specs.Lists.{keep_if}
use Rattle.rules.specs.declared.Point.{Point}
use Rattle.rules.specs.declared.Primitive.{Primitive}
use Rattle.rules.specs.declared.Product.{Product}
use Rattle.rules.specs.declared.Window.{Window}
use Rattle.rules.specs.Choices.{choices, in_of}
use Rattle.rules.specs.Form.{Form, ◌∪◌, ◌∩◌, ◌∖◌, form_of, holds_at, leaves, Rule}
use Rattle.rules.specs.Inside.{inside_solid, inside}
use Rattle.rules.specs.NormalForm.{is_normal, products_of}
use Rattle.rules.specs.Procedure.{normalize}
use Rattle.rules.specs.Products.{stays, trimmed, firsts, products}
use Rattle.rules.specs.Table.{primitives}
use Rattle.rules.specs.Tree.{tree_of, nowhere}

-- no rule of a lower number fits
abbrev pub Least : ℕ → Form → Type 0
Least k T = (j : ℕ) (U : Form) → Rule j T U → k ≤ j

-- one rewrite: of a node by the lowest of the nine rules that fits there, be it the root, or in a left part, or in the right part of a union
pub data Rewrite : Form → Form → Type 0 where
  here : {k : ℕ} {T U : Form} → Rule k T U → Least k T → Rewrite T U
  left_of_∪ : {X Y U : Form} → Rewrite X U → Rewrite (X ∪ Y) (U ∪ Y)
  left_of_∩ : {X Y U : Form} → Rewrite X U → Rewrite (X ∩ Y) (U ∩ Y)
  left_of_∖ : {X Y U : Form} → Rewrite X U → Rewrite (X ∖ Y) (U ∖ Y)
  right_of_∪ : {X Y U : Form} → Rewrite Y U → Rewrite (X ∪ Y) (X ∪ U)

-- none, or one and then more
pub data Rewrites : Form → Form → Type 0 where
  no_more : {T : Form} → Rewrites T T
  one_more : {T U N : Form} → Rewrite T U → Rewrites U N → Rewrites T N

-- which primitives of a table hold a point, by their numbers
abbrev pub holding : List ℤ → Point → ℕ → Bool
holding t p i = inside_solid (get_or (primitives t) i nowhere) p

-- what pruning leaves of products: those that stay in the window, without the cuts that miss them, and of equal ones the first
abbrev pub pruned : Window → List Primitive → List Product → List Product
pruned w solids cs = firsts (map (trimmed w solids) (keep_if (stays w solids) cs))

-- what the finished tree F of a table's zone is
pub record Rewritten (t : List ℤ) (F : Form) : Type 0 where
  -- it is in normal form
  pub normal : is_normal F ≡ true
  -- rewrites lead to it from the zone's tree, ..
  pub by_rules : Rewrites (form_of (tree_of t)) F
  -- .. in the order of the procedure of document 000
  pub by_procedure : F ≡ normalize (form_of (tree_of t))
  -- its products are the choices of the zone's tree, in order, each as often
  pub exact : products_of F ≡ choices in_of (tree_of t)
  -- at every point it holds what the zone's tree holds
  pub points : (p : Point) → holds_at (holding t p) F ≡ inside (tree_of t) p
  -- no leaf is lost, and 4,096 are enough
  pub no_leaf_lost : leaves (form_of (tree_of t)) ≤ leaves F
  pub enough : leaves F ≤ 4096
  -- a list of the zone is those products, pruned afterwards
  pub pruned_list : (w : Window) → products w (primitives t) (tree_of t) ≡ pruned w (primitives t) (products_of F)
