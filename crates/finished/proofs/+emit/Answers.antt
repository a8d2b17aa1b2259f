-- The rows of a tree, by recursion on its size. Assumes nothing.
use Prim.Native.Nat.{ℕ, ◌+◌, ◌-◌, ◌*◌, ◌<◌}
use native.Mathlib.Omega.{arith}
use mathlib.Core.List.{[], ◌∷◌}
use mathlib.Core.Path.{sym, ap, ◌∙◌}
use borrow.Author.Rules.{rules}
use lib.IntN.{pos}
use lib.ListN.{length}
use lib.Seq.{sets}
use Rattle.paper.proofs.Rows.{some_rows}
use Rattle.normal.specs.Prefix.{left_of, right_of}
use Rattle.normal.proofs.Words.{top_primitive, lies_in}
use Rattle.finished.proofs.Laws.{rows_at, rowed_length, leaf_rowed, are_three, parts, left_lies, left_rows, right_lies, sizes, node_done}
use Rattle.finished.proofs.+emit.Goals as goal

pub put-requires : goal.put-requires
put-requires t c =
    let i = top_primitive c.requires.0 c.requires.1.small (c.in-Primitive.ensures c.requires.0 c.requires.1) in record {
      room = omega (arith, c.requires.2, some_rows c.requires.0);
      are_words = are_three 0 c.in-Primitive.i 0 (omega arith) (omega arith) (omega arith);
    }

pub returns-in-Primitive : goal.returns-in-Primitive
returns-in-Primitive t c = λ T l.
    let i = top_primitive T l.small (c.in-Primitive.ensures T l) in
    leaf_rowed (omega arith) (c.put.ensures ∙ ap (λ (n : ℕ). sets c.args.out.now (c.args.row * 3) (pos 0 ∷ pos n ∷ pos 0 ∷ [])) (sym i.0))

pub overflow_add-at : goal.overflow_add-at
overflow_add-at t c = let i : c.args.at < length c.args.w.now = lies_in c.requires.1 in search rules

pub emit-middle-requires : goal.emit-middle-requires
emit-middle-requires t c =
    let p = left_lies c.requires.1 c.in-Node.ensures in
    let s = parts c.requires.1 c.in-Node.ensures in
    (omega (arith, rows_at p, rows_at c.requires.1, c.decreases, s), (left_of c.requires.0, p, omega (arith, s, c.requires.2), omega (arith, s, c.requires.3)))

pub overflow_add-at-in-Node : goal.overflow_add-at-in-Node
overflow_add-at-in-Node t c = let i : c.args.at < length c.args.w.now = lies_in c.requires.1 in search rules

pub overflow_sub-middle : goal.overflow_sub-middle
overflow_sub-middle t c = let q = left_rows c.requires.1 c.in-Node.ensures c.emit-middle.ensures in omega (arith, q.ends)

pub overflow_add-at-in-Node-2 : goal.overflow_add-at-in-Node-2
overflow_add-at-in-Node-2 t c =
    let i : c.args.at + 1 + (c.emit-middle.result - c.args.row) < length c.args.w.now = lies_in (right_lies c.requires.1 c.in-Node.ensures c.emit-middle.ensures) in search rules

pub emit-end-requires : goal.emit-end-requires
emit-end-requires t c =
    let q = left_rows c.requires.1 c.in-Node.ensures c.emit-middle.ensures in
    let r = right_lies c.requires.1 c.in-Node.ensures c.emit-middle.ensures in
    let s = parts c.requires.1 c.in-Node.ensures in
    (omega (arith, rows_at r, rows_at c.requires.1, c.decreases, s), (right_of c.requires.0, r, omega (arith, s, c.requires.2, q.ends, rowed_length q), omega (arith, s, c.requires.3, q.ends)))

pub overflow_mul-end : goal.overflow_mul-end
overflow_mul-end t c = let s = sizes c.requires.1 c.in-Node.ensures c.emit-middle.ensures c.emit-end.ensures in record { fits = omega (arith, c.requires.2, c.requires.3) }

pub overflow_sub-middle-in-Node : goal.overflow_sub-middle-in-Node
overflow_sub-middle-in-Node t c = let s = sizes c.requires.1 c.in-Node.ensures c.emit-middle.ensures c.emit-end.ensures in omega arith

pub overflow_sub-end : goal.overflow_sub-end
overflow_sub-end t c = let s = sizes c.requires.1 c.in-Node.ensures c.emit-middle.ensures c.emit-end.ensures in omega arith

pub put-requires-in-Node : goal.put-requires-in-Node
put-requires-in-Node t c =
    let s = sizes c.requires.1 c.in-Node.ensures c.emit-middle.ensures c.emit-end.ensures in
    let n = c.kind.ensures in record {
      room = omega (arith, c.requires.2);
      are_words = are_three _ _ _ (omega arith) (omega (arith, c.requires.3)) (omega (arith, c.requires.3));
    }

pub overflow_add-result-in-Node : goal.overflow_add-result-in-Node
overflow_add-result-in-Node t c = let s = sizes c.requires.1 c.in-Node.ensures c.emit-middle.ensures c.emit-end.ensures in record { fits = omega (arith, c.requires.3) }

pub returns-in-Node : goal.returns-in-Node
returns-in-Node t c = λ T l. node_done l c.in-Node.ensures c.emit-middle.ensures c.emit-end.ensures c.kind.ensures c.put-in-Node.ensures
