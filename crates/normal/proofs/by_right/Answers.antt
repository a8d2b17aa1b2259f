-- 1 to 6: the right part is a node. Assumes nothing.
use Prim.Native.Nat.{ℕ, ◌+◌, ◌-◌, ◌≤◌}
use mathlib.Core.List.{List}
use mathlib.Core.Path.{◌≡◌, ap, ◌∙◌}
use lib.IntN.{ℤ}
use lib.ListN.{length}
use Rattle.rules.specs.Form.{Form}
use Rattle.rules.specs.TreeRows.{rows_in}
use Rattle.moves.specs.declared.Operation.{Operation}
use Rattle.moves.specs.Moves.{most_words, operation_number}
use Rattle.normal.specs.Prefix.{head, left_of, right_of}
use Rattle.normal.specs.Held.{LeftAt, Placed}
use Rattle.normal.proofs.Words.{node_head, placed_right}
use Rattle.normal.proofs.Rights.{middle_is, lean_in, room_2, room_3, room_5, rule_1, rule_2, rule_3, rule_4, rule_5, rule_6}
use Rattle.normal.proofs.by_right.Goals as goal

-- what was read of the right part
module _ {w : List ℤ} {at right used middle : ℕ} {a : List ℤ} {T : Form} {c : List ℤ} (q : Operation) (p : Placed w at right used a T c)
    (e : head (right_of T) ≡ operation_number q) (lefts : LeftAt w right middle) where
  node : 16 ≤ head (right_of T)
  node = node_head (right_of T) q e

  words : middle ≡ rows_in (left_of (right_of T))
  words = middle_is p node (lefts (right_of T) (placed_right p))

  fits : (at + 1 ≤ right) × (right + 1 ≤ length w) × (right - at + middle ≤ most_words)
  fits = lean_in p node words

pub left_words-middle-requires : goal.left_words-middle-requires
left_words-middle-requires c = (right_of c.requires.1, placed_right c.requires.3)

pub lean-requires : goal.lean-requires
lean-requires c = let i = fits c.args.q c.requires.3 c.requires.5 c.left_words-middle.ensures in record { right_in_bounds = (i.0, i.1); few = i.2 }

pub returns-in-Diff-Union : goal.returns-in-Diff-Union
returns-in-Diff-Union c = λ a T e p k q.
    rule_1 p (node c.args.q p q c.left_words-middle.ensures) (words c.args.q p q c.left_words-middle.ensures) (k ∙ ap operation_number c.in-Diff-Union.is-0) (q ∙ ap operation_number c.in-Diff-Union.is-1) c.lean.ensures

pub split-requires-in-Inter-Union : goal.split-requires-in-Inter-Union
split-requires-in-Inter-Union c = record {
  right_in_bounds = room_2 c.requires.3 (node c.args.q c.requires.3 c.requires.5 c.left_words-middle.ensures) (words c.args.q c.requires.3 c.requires.5 c.left_words-middle.ensures) (c.requires.4 ∙ ap operation_number c.in-Inter-Union.is-0)
      (c.requires.5 ∙ ap operation_number c.in-Inter-Union.is-1);
  few = (fits c.args.q c.requires.3 c.requires.5 c.left_words-middle.ensures).2;
}

pub returns-in-Inter-Union : goal.returns-in-Inter-Union
returns-in-Inter-Union c = λ a T e p k q.
    rule_2 p (node c.args.q p q c.left_words-middle.ensures) (words c.args.q p q c.left_words-middle.ensures) (k ∙ ap operation_number c.in-Inter-Union.is-0) (q ∙ ap operation_number c.in-Inter-Union.is-1) c.split-in-Inter-Union.ensures

pub split-requires : goal.split-requires
split-requires c = record {
  right_in_bounds = room_3 c.requires.3 (node c.args.q c.requires.3 c.requires.5 c.left_words-middle.ensures) (words c.args.q c.requires.3 c.requires.5 c.left_words-middle.ensures) (c.requires.4 ∙ ap operation_number c.in-Diff-Inter.is-0)
      (c.requires.5 ∙ ap operation_number c.in-Diff-Inter.is-1);
  few = (fits c.args.q c.requires.3 c.requires.5 c.left_words-middle.ensures).2;
}

pub returns-in-Diff-Inter : goal.returns-in-Diff-Inter
returns-in-Diff-Inter c = λ a T e p k q.
    rule_3 p (node c.args.q p q c.left_words-middle.ensures) (words c.args.q p q c.left_words-middle.ensures) (k ∙ ap operation_number c.in-Diff-Inter.is-0) (q ∙ ap operation_number c.in-Diff-Inter.is-1) c.split.ensures

pub lean-requires-in-Inter-Inter : goal.lean-requires-in-Inter-Inter
lean-requires-in-Inter-Inter c = let i = fits c.args.q c.requires.3 c.requires.5 c.left_words-middle.ensures in record { right_in_bounds = (i.0, i.1); few = i.2 }

pub returns-in-Inter-Inter : goal.returns-in-Inter-Inter
returns-in-Inter-Inter c = λ a T e p k q.
    rule_4 p (node c.args.q p q c.left_words-middle.ensures) (words c.args.q p q c.left_words-middle.ensures) (k ∙ ap operation_number c.in-Inter-Inter.is-0) (q ∙ ap operation_number c.in-Inter-Inter.is-1) c.lean-in-Inter-Inter.ensures

pub split-requires-in-Diff-Diff : goal.split-requires-in-Diff-Diff
split-requires-in-Diff-Diff c = record {
  right_in_bounds = room_5 c.requires.3 (node c.args.q c.requires.3 c.requires.5 c.left_words-middle.ensures) (words c.args.q c.requires.3 c.requires.5 c.left_words-middle.ensures) (c.requires.4 ∙ ap operation_number c.in-Diff-Diff.is-0)
      (c.requires.5 ∙ ap operation_number c.in-Diff-Diff.is-1);
  few = (fits c.args.q c.requires.3 c.requires.5 c.left_words-middle.ensures).2;
}

pub returns-in-Diff-Diff : goal.returns-in-Diff-Diff
returns-in-Diff-Diff c = λ a T e p k q.
    rule_5 p (node c.args.q p q c.left_words-middle.ensures) (words c.args.q p q c.left_words-middle.ensures) (k ∙ ap operation_number c.in-Diff-Diff.is-0) (q ∙ ap operation_number c.in-Diff-Diff.is-1) c.split-in-Diff-Diff.ensures

pub lean-requires-in-Inter-Diff : goal.lean-requires-in-Inter-Diff
lean-requires-in-Inter-Diff c = let i = fits c.args.q c.requires.3 c.requires.5 c.left_words-middle.ensures in record { right_in_bounds = (i.0, i.1); few = i.2 }

pub returns-in-Inter-Diff : goal.returns-in-Inter-Diff
returns-in-Inter-Diff c = λ a T e p k q.
    rule_6 p (node c.args.q p q c.left_words-middle.ensures) (words c.args.q p q c.left_words-middle.ensures) (k ∙ ap operation_number c.in-Inter-Diff.is-0) (q ∙ ap operation_number c.in-Inter-Diff.is-1) c.lean-in-Inter-Diff.ensures
