-- At every integer point in range the tree's answer is that of the set operations. Assumes nothing.
use mathlib.Core.Bool.{Bool, true, false, not}
use mathlib.Core.List.{List, [], ◌∷◌}
use mathlib.Core.Option.{none}
use mathlib.Core.Path.{◌≡◌, sym, ◌∙◌}
use lib.IntN.{ℤ}
use Rattle.ground.specs.Tests.{Says}
use Rattle.ground.proofs.Saying.{says_or, says_and, says_not, says_itself}
use Rattle.rules.specs.declared.Point.{Point}
use Rattle.rules.specs.Boxes.{holds, everywhere}
use Rattle.rules.specs.Verdict.{table_refusal}
use Rattle.rules.specs.Tree.{Tree, solid, union, inter, diff, tree_of}
use Rattle.rules.specs.Inside.{inside_solid, inside}
use Rattle.rules.specs.Told.{Located, fine, told_located}
use Rattle.rules.specs.TreeCalls.{point_refusal, point_tale, TreeLocated}
use Rattle.promises.specs.Promises.{BySet}
use Rattle.promises.specs.Sets.{InSet}
use Rattle.laws.proofs.Telling.{told_later, told_fine, holds_point}

-- the definition by tests is the definition by sets
pub tests_are_sets : (tree : Tree) (p : Point) → Says (inside tree p) (InSet tree p)
unfolding inside InSet
tests_are_sets (solid n s) p = says_itself (inside_solid s p)
tests_are_sets (union l r) p = says_or (inside l p) (inside r p) (InSet l p) (InSet r p) (tests_are_sets l p) (tests_are_sets r p)
tests_are_sets (inter l r) p = says_and (inside l p) (inside r p) (InSet l p) (InSet r p) (tests_are_sets l p) (tests_are_sets r p)
tests_are_sets (diff l r) p =
    says_and (inside l p) (not (inside r p)) (InSet l p) (InSet r p → ⊥) (tests_are_sets l p) (says_not (inside r p) (InSet r p) (tests_are_sets r p))

-- whoever meets the record of a point in the tree answers by the set, at every point in range
module _ (t : List ℤ) (sound : table_refusal t ≡ none) (p : Point) (ranged : holds everywhere p ≡ true) {r : Located} (met : TreeLocated t p r) where
  told : told_located r ≡ fine (point_tale (inside (tree_of t) p))
  told =
      let tale = point_tale (inside (tree_of t) p) in
      met.answer
      ∙ sym (told_later (table_refusal t) (point_refusal everywhere p ∷ []) tale sound (told_later (point_refusal everywhere p) [] tale (holds_point everywhere p ranged) (told_fine tale)))

  go : (b : Bool) → Says b (InSet (tree_of t) p) → told_located r ≡ fine (point_tale b) → BySet (InSet (tree_of t) p) r
  go true says e = record { in_zone = λ k. e; out_of_zone = λ k. absurd (k says) }
  go false says e = record { in_zone = λ k. absurd (says k); out_of_zone = λ k. e }

  pub tree_answers_sets : BySet (InSet (tree_of t) p) r
  tree_answers_sets = go (inside (tree_of t) p) (tests_are_sets (tree_of t) p) told
