-- Within the limits of the call, and what writing the finished tree leaves.
use Rattle.std.specs.Prelude.{ℕ, ◌≤◌, List, ◌≡◌, ℤ, pos, length, replicate}
use Rattle.std.proofs.Math.Option.{none}
use Rattle.rules.specs.Choices.{expansion}
use Rattle.rules.specs.Outcome.{over}
use Rattle.rules.specs.RewriteCall.{most_rewritten, most_ways, rewrite_words, finished_rows}
use Rattle.rules.specs.Table.{primitives}
use Rattle.rules.specs.Tree.{tree_of}
use Rattle.rules.specs.Verdict.{table_refusal}

pub record Limits (t before work : List ℤ) : Type 0 where
  pub sound : table_refusal t ≡ none
  pub few : length (primitives t) ≤ most_rewritten
  pub ways : expansion (tree_of t) ≤ most_ways
  pub room : rewrite_words ≤ length before
  pub work_room : rewrite_words ≤ length work

pub record Finished (t before after work cleared : List ℤ) (n : ℕ) : Type 0 where
  pub size : n ≡ length (finished_rows t)
  pub tree : after ≡ over (finished_rows t) before
  pub zeroed : cleared ≡ replicate (length work) (pos 0)
