-- One rewrite at the node. Assumes nothing.
use Prim.Native.Nat.{ℕ, ◌+◌, ◌≤◌, ◌<◌}
use native.Mathlib.Omega.{arith}
use mathlib.Core.List.{List}
use mathlib.Core.Path.{◌≡◌, refl, sym, ap, ◌∙◌}
use borrow.Author.Rules.{rules}
use lib.IntN.{ℤ}
use lib.ListN.{length}
use Rattle.rules.specs.Form.{Form}
use Rattle.moves.specs.declared.Operation.{Operation}
use Rattle.moves.specs.declared.Operation.TheVariants.{Union, Inter, Diff}
use Rattle.moves.specs.Moves.{operation_number}
use Rattle.normal.specs.declared.Top.TheVariants.{Primitive, Node}
use Rattle.normal.specs.Prefix.{top, head, right_of, Lies}
use Rattle.normal.specs.Held.{LeftAt, Ready, Placed}
use Rattle.normal.proofs.Words.{top_primitive, top_node, left_words_rows, lies_in, held_lies, placed_right, placed_small}
use Rattle.normal.proofs.Lefts.{still_low}
use Rattle.normal.proofs.rewrite.Goals as goal

-- an intersection or a difference
is_cut : (o : Operation) → (o ≡ Union → ⊥) → 20 ≤ operation_number o
is_cut Union n = absurd (n refl)
is_cut Inter n = omega arith
is_cut Diff n = omega arith

-- what was read of the node, and where its right part stands
module _ {w : List ℤ} {at used first : ℕ} {a : List ℤ} {T : Form} {c : List ℤ} {o : Operation} (r : Ready w at used a T c)
    (tops : (U : Form) → Lies w at U → Node o ≡ top U) (n : o ≡ Union → ⊥) (lefts : LeftAt w at first) where
  node_is : head T ≡ operation_number o
  node_is = top_node T (tops T (held_lies r.held))

  placed : Placed w at (at + 1 + first) used a T c
  placed =
      let e : 20 ≤ head T = omega (arith, is_cut o n, node_is) in
      record { ready = r; node = e; place = ap (λ (n : ℕ). at + 1 + n) (sym (lefts T (held_lies r.held) ∙ left_words_rows T r.held.small (omega arith))) }

  right_is : {q : Operation} → ((U : Form) → Lies w (at + 1 + first) U → Node q ≡ top U) → head (right_of T) ≡ operation_number q
  right_is f = top_node (right_of T) (f (right_of T) (placed_right placed))

  primitive_is : {z : ℕ} → ((U : Form) → Lies w (at + 1 + first) U → Primitive z ≡ top U) → (head (right_of T) ≡ z) × (z < 16)
  primitive_is f = top_primitive (right_of T) (placed_small placed).1 (f (right_of T) (placed_right placed))

pub returns-in_default : goal.returns-in_default
returns-in_default c = λ a T e r.
    let i = top_primitive T r.held.small (c.in_default.ensures T (held_lies r.held)) in (still_low T (omega arith), r.held)

pub returns-then-eq : goal.returns-then-eq
returns-then-eq c = λ a T e r.
    let u : c.in-Node.k ≡ Union = search rules in
    let k : head T ≡ 19 = top_node T (c.in-Node.ensures T (held_lies r.held)) ∙ ap operation_number u in (still_low T (omega arith), r.held)

pub overflow_add-right-2 : goal.overflow_add-right-2
overflow_add-right-2 c =
    let n : c.in-Node.k ≡ Union → ⊥ = search rules in
    let i : c.args.at + 1 + c.left_words.result < length c.args.w.now = lies_in (placed_right (placed c.requires.3 c.in-Node.ensures n c.left_words.ensures)) in search rules

pub head-requires-2 : goal.head-requires-2
head-requires-2 c =
    let n : c.in-Node.k ≡ Union → ⊥ = search rules in (right_of c.requires.1, placed_right (placed c.requires.3 c.in-Node.ensures n c.left_words.ensures))

pub by_left-requires : goal.by_left-requires
by_left-requires c =
    let r = c.requires.3 in
    let n : c.in-Node.k ≡ Union → ⊥ = search rules in
    let z = primitive_is r c.in-Node.ensures n c.left_words.ensures c.in-Primitive.ensures in
    (c.requires.0, c.requires.1, c.requires.2, placed r c.in-Node.ensures n c.left_words.ensures, node_is r c.in-Node.ensures n c.left_words.ensures, z.0, z.1)

pub returns-in-Primitive : goal.returns-in-Primitive
returns-in-Primitive c = λ a T e r.
    let n : c.in-Node.k ≡ Union → ⊥ = search rules in
    c.by_left.ensures a T e (placed r c.in-Node.ensures n c.left_words.ensures) (node_is r c.in-Node.ensures n c.left_words.ensures)
    (primitive_is r c.in-Node.ensures n c.left_words.ensures c.in-Primitive.ensures).0

pub by_right-requires : goal.by_right-requires
by_right-requires c =
    let r = c.requires.3 in
    let n : c.in-Node.k ≡ Union → ⊥ = search rules in (
      c.requires.0,
      c.requires.1,
      c.requires.2,
      placed r c.in-Node.ensures n c.left_words.ensures,
      node_is r c.in-Node.ensures n c.left_words.ensures,
      right_is r c.in-Node.ensures n c.left_words.ensures c.in-Node-head.ensures,
    )

pub returns-in-Node-head : goal.returns-in-Node-head
returns-in-Node-head c = λ a T e r.
    let n : c.in-Node.k ≡ Union → ⊥ = search rules in
    c.by_right.ensures a T e (placed r c.in-Node.ensures n c.left_words.ensures) (node_is r c.in-Node.ensures n c.left_words.ensures)
    (right_is r c.in-Node.ensures n c.left_words.ensures c.in-Node-head.ensures)
