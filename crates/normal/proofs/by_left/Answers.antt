-- 6.5, 7 and 8: the right part is a primitive. Assumes nothing.
use Prim.Native.Nat.{◌<◌, ◌≤◌}
use native.Mathlib.Omega.{arith}
use mathlib.Core.Path.{◌≡◌, refl, sym, ap, ◌∙◌}
use Rattle.moves.specs.declared.Operation.{Operation}
use Rattle.moves.specs.declared.Operation.TheVariants.{Union, Inter, Diff}
use Rattle.moves.specs.Moves.{operation_number}
use Rattle.normal.specs.Prefix.{head, left_of, right_of}
use Rattle.normal.proofs.Words.{top_primitive, top_node, node_head, placed_left, placed_small}
use Rattle.normal.proofs.Lefts.{still_left, swap_in, rule_65, share_in, rule_78}
use Rattle.normal.proofs.by_left.Goals as goal

is_inter : (o : Operation) → operation_number o ≡ 20 → o ≡ Inter
is_inter Union e = absurd (omega arith)
is_inter Inter e = refl
is_inter Diff e = absurd (omega arith)

pub left_words-first-requires : goal.left_words-first-requires
left_words-first-requires c = (left_of c.requires.1, placed_left c.requires.3)

pub head-requires : goal.head-requires
head-requires c = (left_of c.requires.1, placed_left c.requires.3)

pub returns-in_default : goal.returns-in_default
returns-in_default c = λ a T e p k z.
    let i = top_primitive (left_of T) (placed_small p).0 (c.in_default.ensures (left_of T) (placed_left p)) in
    (still_left T p.ready.held.small p.node (omega (arith, c.requires.6)) (λ x. omega arith) (λ x y. omega arith), p.ready.held)

pub share-requires : goal.share-requires
share-requires c =
    let p = c.requires.3 in
    let L = left_of c.requires.1 in
    let g : head (right_of c.requires.1) < 16 = omega (arith, c.requires.5, c.requires.6) in
    let e : head L ≡ 19 = top_node L (c.in-Node.ensures L (placed_left p)) ∙ ap operation_number c.in_default-Union.is-1 in
    let i = share_in p g (omega arith) e (c.left_words-first.ensures L (placed_left p)) in record {
      right_in_bounds = (i.0, i.1, i.2);
      few = i.3;
      is_primitive = c.requires.6;
    }

pub returns-in_default-Union : goal.returns-in_default-Union
returns-in_default-Union c = λ a T e p k z.
    let L = left_of T in
    let g : head (right_of T) < 16 = omega (arith, z, c.requires.6) in
    let f : head L ≡ 19 = top_node L (c.in-Node.ensures L (placed_left p)) ∙ ap operation_number c.in_default-Union.is-1 in
    rule_78 p g (omega arith) f (c.left_words-first.ensures L (placed_left p)) (sym k) (sym z) c.share.ensures

pub swap-requires : goal.swap-requires
swap-requires c =
    let p = c.requires.3 in
    let L = left_of c.requires.1 in
    let g : head (right_of c.requires.1) < 16 = omega (arith, c.requires.5, c.requires.6) in
    let n : 16 ≤ head L = node_head L c.in-Node.p (top_node L (c.in-Node.ensures L (placed_left p))) in
    let i = swap_in p g n (c.left_words-first.ensures L (placed_left p)) in record {
      right_in_bounds = (i.0, i.1);
      few = i.2;
      is_primitive = c.requires.6;
    }

pub returns-in-Inter-Diff : goal.returns-in-Inter-Diff
returns-in-Inter-Diff c = λ a T e p k z.
    let L = left_of T in
    let g : head (right_of T) < 16 = omega (arith, z, c.requires.6) in
    let f : head L ≡ 21 = top_node L (c.in-Node.ensures L (placed_left p)) ∙ ap operation_number c.in-Inter-Diff.is-1 in
    rule_65 p g (omega arith) (c.left_words-first.ensures L (placed_left p)) (sym z) (k ∙ ap operation_number c.in-Inter-Diff.is-0) f c.swap.ensures

-- the left part is a difference, and the node is no intersection
pub returns-in_default-2 : goal.returns-in_default-2
returns-in_default-2 c = λ a T e p k z.
    let L = left_of T in
    let f : head L ≡ 21 = top_node L (c.in-Node.ensures L (placed_left p)) ∙ ap operation_number c.in_default-2.is-1 in
    (still_left T p.ready.held.small p.node (omega (arith, z, c.requires.6)) (λ x. omega arith) (λ x y. c.in_default-2.not-Inter-0 (is_inter c.args.k (sym k ∙ y))), p.ready.held)

-- the left part is an intersection
pub returns-in_default-2-2 : goal.returns-in_default-2-2
returns-in_default-2-2 c = λ a T e p k z.
    let L = left_of T in
    let f : head L ≡ 20 = top_node L (c.in-Node.ensures L (placed_left p)) ∙ ap operation_number c.in_default-2.is-1 in
    (still_left T p.ready.held.small p.node (omega (arith, z, c.requires.6)) (λ x. omega arith) (λ x y. omega arith), p.ready.held)
