-- Sections 13 and 19 of docs/RULES.md: what the call that rewrites a tree promises.
use Rattle.std.specs.Prelude.{ℕ, ◌&&◌, List, [], ◌∷◌, ◌≡◌, leb, ℤ, pos, length, replicate}
use Rattle.std.proofs.Math.Option.{Option}
use Rattle.ground.specs.Lists.{first_of}
use Rattle.rules.specs.declared.Refusal.{Refusal}
use Rattle.rules.specs.declared.Rule.TheVariants as rule
use Rattle.rules.specs.Table.{primitives}
use Rattle.rules.specs.Verdict.{table_refusal}
use Rattle.rules.specs.Tree.{tree_of}
use Rattle.rules.specs.Choices.{expansion}
use Rattle.rules.specs.Form.{Form, form_of}
use Rattle.rules.specs.Procedure.{normalize}
use Rattle.rules.specs.TreeRows.{rows_from}
use Rattle.rules.specs.Refusals.{refuse_unless}
use Rattle.rules.specs.Told.{Written, wrote, tell, told_written}
use Rattle.rules.specs.Outcome.{leave}

-- the primitives and the ways of choosing of a tree that is rewritten
abbrev pub most_rewritten : ℕ
most_rewritten = 16

abbrev pub most_ways : ℕ
most_ways = 256

-- three words for each row of a tree of 16 times 256 leaves
abbrev pub rewrite_words : ℕ
rewrite_words = 24573

abbrev pub finished_tree : List ℤ → Form
finished_tree t = normalize (form_of (tree_of t))

unfoldable pub finished_rows : List ℤ → List ℤ
finished_rows t = rows_from 0 (finished_tree t)

-- rewrite the tree: table, 14, 15, 8 for either area
abbrev pub rewrite_refusal : List ℤ → ℕ → ℕ → Option Refusal
rewrite_refusal t room workRoom =
    first_of
    (table_refusal t
    ∷ refuse_unless (leb (length (primitives t)) most_rewritten) rule.Leaves (length (primitives t))
    ∷ refuse_unless (leb (expansion (tree_of t)) most_ways) rule.Ways (expansion (tree_of t))
    ∷ refuse_unless (leb rewrite_words room && leb rewrite_words workRoom) rule.Room rewrite_words
    ∷ [])

-- the finished tree lies over what was in its area; the work area is 0 to its end
pub record TreeRewritten (t before after work cleared : List ℤ) (r : Written) : Type 0 where
  pub answer : told_written r ≡ tell (rewrite_refusal t (length before) (length work)) (wrote (length (finished_rows t)))
  pub tree : after ≡ leave (rewrite_refusal t (length before) (length work)) (finished_rows t) before
  pub zeroed : cleared ≡ leave (rewrite_refusal t (length before) (length work)) (replicate (length work) (pos 0)) work
