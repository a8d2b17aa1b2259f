-- The procedure, by recursion on how deep its calls go; the repeat ends since the weight of the tree falls. Assumes nothing.
use Prim.Native.Nat.{ℕ, ◌+◌, ◌≤◌, ◌<◌}
use native.Mathlib.Omega.{arith}
use mathlib.Core.Bool.{true, false}
use mathlib.Core.List.{List}
use mathlib.Core.Path.{◌≡◌, sym, ap, ◌∙◌}
use borrow.Author.Rules.{rules}
use lib.IntN.{ℤ}
use lib.ListN.{length}
use Rattle.rules.specs.Form.{Form}
use Rattle.paper.specs.Measures.{high}
use Rattle.moves.specs.declared.Operation.{Operation}
use Rattle.normal.specs.declared.Top.TheVariants.{Node}
use Rattle.normal.specs.Prefix.{top, head, left_of, right_of, Lies}
use Rattle.normal.specs.Held.{Held, Ready}
use Rattle.normal.proofs.Words.{top_primitive, top_node, node_head, union_is, union_head, lies_in, held_lies}
use Rattle.normal.proofs.Reading.{tree_at, lies_tree}
use Rattle.normal.proofs.Whole.{onward_ready, settled, settled_node, left_before, left_after, left_lower, stopped, left_in, grown, widens, held_in, falls, onward}
use Rattle.normal.proofs.Whole.{normal_leaf, end_other, right_before, right_ready, right_lower, right_done}
use Rattle.normal.proofs.+normalize.Goals as goal

is_node : {w : List ℤ} {at used : ℕ} {a c : List ℤ} {o : Operation} (T : Form) → Held w at used a T c → ((U : Form) → Lies w at U → Node o ≡ top U) → 16 ≤ head T
is_node {o = o} T h n = node_head T o (top_node T (n T (held_lies h)))

-- how deep the tree is that the call began with
depth : {w : List ℤ} {at used t : ℕ} {a : List ℤ} {T : Form} {c : List ℤ} → Ready w at used a T c → high (tree_at w at) true ≡ t → high T true ≡ t
depth r e = sym (ap (λ (T : Form). high T true) (lies_tree (held_lies r.held))) ∙ e

pub returns-in_default : goal.returns-in_default
returns-in_default t c = λ a T e r.
    let i = top_primitive T r.held.small (c.in_default.ensures T (held_lies r.held)) in normal_leaf (omega arith) r.held

pub reduce-start-requires : goal.reduce-start-requires
reduce-start-requires t c =
    let r = c.requires.3 in
    let o = c.loop-start.invariant.1 _ _ _ r (is_node _ r.held c.in-Node.ensures) in
    (c.requires.0, o.tree, c.requires.2, onward_ready r c.loop-start.invariant.0 o)

pub normalize-n-requires : goal.normalize-n-requires
normalize-n-requires t c =
    let r = c.requires.3 in
    let o = c.loop-start.invariant.1 _ _ _ r (is_node _ r.held c.in-Node.ensures) in
    let s = stopped r o c.loop-start.invariant.0 c.reduce-start.ensures in
    (left_lower s o.node (o.deep ∙ depth r c.decreases), (left_before s o.node, left_of s.tree, left_after s o.node, left_in r o c.loop-start.invariant.0 c.reduce-start.ensures c.reduce-start.auto.w))

pub overflow_sub-n : goal.overflow_sub-n
overflow_sub-n t c =
    let r = c.requires.3 in
    let o = c.loop-start.invariant.1 _ _ _ r (is_node _ r.held c.in-Node.ensures) in
    grown r o c.loop-start.invariant.0 c.reduce-start.ensures c.reduce-start.auto.w c.normalize-n.ensures

pub widen-requires : goal.widen-requires
widen-requires t c =
    let r = c.requires.3 in
    let o = c.loop-start.invariant.1 _ _ _ r (is_node _ r.held c.in-Node.ensures) in
    widens r o c.loop-start.invariant.0 c.reduce-start.ensures c.reduce-start.auto.w c.normalize-n.ensures c.normalize-n.auto.w

pub again-requires : goal.again-requires
again-requires t c =
    let r = c.requires.3 in
    let o = c.loop-start.invariant.1 _ _ _ r (is_node _ r.held c.in-Node.ensures) in
    let s = stopped r o c.loop-start.invariant.0 c.reduce-start.ensures in
    (settled s.tree, held_lies (held_in r o c.loop-start.invariant.0 c.reduce-start.ensures c.reduce-start.auto.w c.normalize-n.ensures c.widen.ensures), settled_node s o.node)

pub loop-start-smaller : goal.loop-start-smaller
loop-start-smaller t c =
    let r = c.requires.3 in
    let o = c.loop-start.invariant.1 _ _ _ r (is_node _ r.held c.in-Node.ensures) in
    falls r o c.loop-start.invariant.0 c.reduce-start.ensures c.reduce-start.auto.w c.normalize-n.ensures c.widen.ensures c.again.ensures c.if-not-again.false

pub loop-start-preserved : goal.loop-start-preserved
loop-start-preserved t c = (
  c.widen.auto.w ∙ c.normalize-n.auto.w ∙ c.reduce-start.auto.w ∙ c.loop-start.invariant.0,
  λ a T e r k. onward r (c.loop-start.invariant.1 a T e r k) c.loop-start.invariant.0 c.reduce-start.ensures c.reduce-start.auto.w c.normalize-n.ensures c.widen.ensures c.again.ensures true c.if-not-again.false,
)

pub stands-requires : goal.stands-requires
stands-requires t c =
    let r = c.requires.3 in
    let o = c.loop-start.invariant.1 _ _ _ r (is_node _ r.held c.in-Node.ensures) in
    let n = onward r o c.loop-start.invariant.0 c.reduce-start.ensures c.reduce-start.auto.w c.normalize-n.ensures c.widen.ensures c.again.ensures false c.if-not-again.true in
    (n.tree, held_lies n.held)

pub returns-then-not-stands : goal.returns-then-not-stands
returns-then-not-stands t c = λ a T e r.
    let o = c.loop-start.invariant.1 a T e r (is_node T r.held c.in-Node.ensures) in
    let n = onward r o c.loop-start.invariant.0 c.reduce-start.ensures c.reduce-start.auto.w c.normalize-n.ensures c.widen.ensures c.again.ensures false c.if-not-again.true in
    end_other n (sym (c.stands.ensures n.tree (held_lies n.held) ∙ union_is n.tree) ∙ c.if-not-stands.true)

pub left_words-requires : goal.left_words-requires
left_words-requires t c =
    let r = c.requires.3 in
    let o = c.loop-start.invariant.1 _ _ _ r (is_node _ r.held c.in-Node.ensures) in
    let n = onward r o c.loop-start.invariant.0 c.reduce-start.ensures c.reduce-start.auto.w c.normalize-n.ensures c.widen.ensures c.again.ensures false c.if-not-again.true in
    (n.tree, held_lies n.held)

pub overflow_add-right-2 : goal.overflow_add-right-2
overflow_add-right-2 t c =
    let r = c.requires.3 in
    let o = c.loop-start.invariant.1 _ _ _ r (is_node _ r.held c.in-Node.ensures) in
    let n = onward r o c.loop-start.invariant.0 c.reduce-start.ensures c.reduce-start.auto.w c.normalize-n.ensures c.widen.ensures c.again.ensures false c.if-not-again.true in
    let u = union_head n.tree (sym (c.stands.ensures n.tree (held_lies n.held) ∙ union_is n.tree) ∙ c.if-not-stands.false) in
    let f = c.left_words.ensures n.tree (held_lies n.held) in
    let long : length c.widen.new.w ≡ length c.args.w.now = c.widen.auto.w ∙ c.normalize-n.auto.w ∙ c.reduce-start.auto.w ∙ c.loop-start.invariant.0 in
    let p = right_ready n u f r long in
    let i : c.args.at + 1 + c.left_words.result < length c.widen.new.w = lies_in (held_lies p.held) in search rules

pub normalize-requires : goal.normalize-requires
normalize-requires t c =
    let r = c.requires.3 in
    let o = c.loop-start.invariant.1 _ _ _ r (is_node _ r.held c.in-Node.ensures) in
    let n = onward r o c.loop-start.invariant.0 c.reduce-start.ensures c.reduce-start.auto.w c.normalize-n.ensures c.widen.ensures c.again.ensures false c.if-not-again.true in
    let u = union_head n.tree (sym (c.stands.ensures n.tree (held_lies n.held) ∙ union_is n.tree) ∙ c.if-not-stands.false) in
    let f = c.left_words.ensures n.tree (held_lies n.held) in
    let long : length c.widen.new.w ≡ length c.args.w.now = c.widen.auto.w ∙ c.normalize-n.auto.w ∙ c.reduce-start.auto.w ∙ c.loop-start.invariant.0 in
    let p = right_ready n u f r long in
    (right_lower n u f (depth r c.decreases), (right_before n u, right_of n.tree, c.requires.2, p))

pub returns : goal.returns
returns t c = λ a T e r.
    let o = c.loop-start.invariant.1 a T e r (is_node T r.held c.in-Node.ensures) in
    let n = onward r o c.loop-start.invariant.0 c.reduce-start.ensures c.reduce-start.auto.w c.normalize-n.ensures c.widen.ensures c.again.ensures false c.if-not-again.true in
    let u = union_head n.tree (sym (c.stands.ensures n.tree (held_lies n.held) ∙ union_is n.tree) ∙ c.if-not-stands.false) in
    let f = c.left_words.ensures n.tree (held_lies n.held) in
    let long : length c.widen.new.w ≡ length c.args.w.now = c.widen.auto.w ∙ c.normalize-n.auto.w ∙ c.reduce-start.auto.w ∙ c.loop-start.invariant.0 in
    let p = right_ready n u f r long in
    right_done n u f r (c.normalize.ensures (right_before n u) (right_of n.tree) e p)
