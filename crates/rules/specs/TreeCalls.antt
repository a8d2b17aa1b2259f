-- Section 13 of docs/RULES.md: what the calls over the tree promise. A slice lent for reading stays as it is: only answers are to be fixed.
use Rattle.std.specs.Prelude.{ℕ, Bool, ◌≡◌, List, [], ◌∷◌, ℤ, if◌then◌else◌}
use Rattle.std.proofs.Math.Option.{Option, none, some}
use Rattle.ground.specs.Lists.{first_of}
use Rattle.rules.specs.declared.Place.{Place}
use Rattle.rules.specs.declared.Point.{Point}
use Rattle.rules.specs.declared.Refusal.{Refusal}
use Rattle.rules.specs.declared.Rule.TheVariants as rule
use Rattle.rules.specs.declared.Searched.{Searched}
use Rattle.rules.specs.Ranges.{within}
use Rattle.rules.specs.Boxes.{Box, everywhere}
use Rattle.rules.specs.Verdict.{table_refusal}
use Rattle.rules.specs.Tree.{tree_of}
use Rattle.rules.specs.Inside.{inside}
use Rattle.rules.specs.Frame.{frame_refusal, first_inside, inside_count}
use Rattle.rules.specs.Refusals.{refuse_unless}
use Rattle.rules.specs.Told.{Checked, Located, Tale, sound, inside as stands_inside, outside, clear, hit, tell, told_checked, told_located, told_searched}

-- the first axis on which a point is out, from whether it is in on each (10)
abbrev pub axis_refusal : Bool → Bool → Bool → Option Refusal
axis_refusal x y z = first_of (refuse_unless x rule.Outside 0 ∷ refuse_unless y rule.Outside 1 ∷ refuse_unless z rule.Outside 2 ∷ [])

abbrev pub point_refusal : Box → Point → Option Refusal
point_refusal box p = axis_refusal (within box.x p.x) (within box.y p.y) (within box.z p.z)

abbrev pub point_tale : Bool → Tale
point_tale b = if b then stands_inside else outside

abbrev pub search_tale : Option ℕ → ℕ → Tale
search_tale none count = clear
search_tale (some first) count = hit first count

-- check a table
pub record TableChecked (t : List ℤ) (r : Checked) : Type 0 where
  pub answer : told_checked r ≡ tell (table_refusal t) sound

-- a point in the tree: table, 10
abbrev pub tree_point_refusal : List ℤ → Point → Option Refusal
tree_point_refusal t p = first_of (table_refusal t ∷ point_refusal everywhere p ∷ [])

pub record TreeLocated (t : List ℤ) (p : Point) (r : Located) : Type 0 where
  pub answer : told_located r ≡ tell (tree_point_refusal t p) (point_tale (inside (tree_of t) p))

-- the search over the tree: table, 12
abbrev pub tree_search_refusal : List ℤ → List ℤ → Place → Option Refusal
tree_search_refusal t samples place = first_of (table_refusal t ∷ frame_refusal samples place ∷ [])

pub record TreeSearched (t samples : List ℤ) (place : Place) (r : Searched) : Type 0 where
  pub answer : told_searched r
      ≡ tell (tree_search_refusal t samples place) (search_tale (first_inside (inside (tree_of t)) samples place) (inside_count (inside (tree_of t)) samples place))
