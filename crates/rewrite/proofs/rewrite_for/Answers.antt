-- The room, then the tree. Assumes nothing.
use Prim.Native.Nat.{ℕ, ◌≤◌}
use mathlib.Core.List.{List}
use mathlib.Core.Option.{none}
use mathlib.Core.Path.{◌≡◌}
use lib.IntN.{ℤ}
use lib.ListN.{length}
use Rattle.rules.specs.Choices.{expansion}
use Rattle.rules.specs.RewriteCall.{most_rewritten, most_ways, rewrite_words}
use Rattle.rules.specs.Table.{primitives}
use Rattle.rules.specs.Tree.{tree_of}
use Rattle.rules.specs.Verdict.{table_refusal}
use Rattle.rewrite.specs.Limits.{Limits}
use Rattle.rewrite.proofs.Calls.{too_short, long_enough, by_room, by_none}
use Rattle.rewrite.proofs.rewrite_for.Goals as goal

-- no rule is broken
module _ {t tree work : List ℤ} (sound : table_refusal t ≡ none) (few : (length (primitives t) ≤ most_rewritten) × (expansion (tree_of t) ≤ most_ways)) where
  limits : (rewrite_words ≤ length tree) × (rewrite_words ≤ length work) → Limits t tree work
  limits long = record { sound = sound; few = few.0; ways = few.1; room = long.0; work_room = long.1 }

pub returns-then-tree-work : goal.returns-then-tree-work
returns-then-tree-work c =
    rw c.new.ensures
    (by_room c.args.table.now c.args.tree.now c.args.work.now c.requires.table_value c.requires.table_len_bound.0 c.requires.table_len_bound.1
    (too_short (length c.args.tree.now) (length c.args.work.now) c.if-tree-work.true))

pub write_tree-requires : goal.write_tree-requires
write_tree-requires c = limits c.requires.table_value c.requires.table_len_bound (long_enough (length c.args.tree.now) (length c.args.work.now) c.if-tree-work.false)

pub returns : goal.returns
returns c =
    by_none c.args.table.now c.args.tree.now c.args.work.now
    (limits c.requires.table_value c.requires.table_len_bound (long_enough (length c.args.tree.now) (length c.args.work.now) c.if-tree-work.false)) c.write_tree.ensures
