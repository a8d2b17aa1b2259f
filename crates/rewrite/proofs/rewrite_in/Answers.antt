-- The primitives, the ways, then the rest. Assumes nothing.
use native.Mathlib.Omega.{arith}
use Prim.Native.Nat.{ℕ}
use lib.ListN.{length-replicate}
use mathlib.Core.Path.{sym, ◌∙◌}
use Rattle.laws.proofs.Soundness.{table_sound}
use Rattle.choice.proofs.Steps.{expansion_ways}
use Rattle.rewrite.proofs.Calls.{by_primitives, by_ways}
use Rattle.rewrite.proofs.rewrite_in.Goals as goal

pub number_rows-primitives-requires : goal.number_rows-primitives-requires
number_rows-primitives-requires c = record { sound = table_sound c.args.table.now c.requires; bits_len = length-replicate {A = ℕ} 127 0 }

pub returns-then-primitives-gt-MOST_REWRITTEN : goal.returns-then-primitives-gt-MOST_REWRITTEN
returns-then-primitives-gt-MOST_REWRITTEN c =
    rw c.new.ensures
    (by_primitives c.args.table.now c.args.tree.now c.args.work.now c.requires c.number_rows-primitives.ensures.0 (omega (arith, c.if-primitives-gt-MOST_REWRITTEN.true)))

pub ways_of-ways-requires : goal.ways_of-ways-requires
ways_of-ways-requires c = (table_sound c.args.table.now c.requires, c.number_rows-primitives.ensures.1)

pub returns-then-ways-gt-MOST_WAYS : goal.returns-then-ways-gt-MOST_WAYS
returns-then-ways-gt-MOST_WAYS c =
    by_ways c.args.table.now c.args.tree.now c.args.work.now c.requires (omega (arith, c.number_rows-primitives.ensures.0, c.if-primitives-gt-MOST_REWRITTEN.false))
    (c.ways_of-ways.ensures ∙ sym (expansion_ways c.args.table.now)) c.if-ways-gt-MOST_WAYS.true

pub rewrite_for-requires : goal.rewrite_for-requires
rewrite_for-requires c = record {
  table_value = c.requires;
  table_len_bound = (
    omega (arith, c.number_rows-primitives.ensures.0, c.if-primitives-gt-MOST_REWRITTEN.false),
    omega (arith, c.ways_of-ways.ensures, expansion_ways c.args.table.now, c.if-ways-gt-MOST_WAYS.false),
  );
}
