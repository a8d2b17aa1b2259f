-- What an answer tells of the rule behind it. Assumes nothing.
use Rattle.std.specs.Prelude.{Ok, Err}
use mathlib.Core.Bool.{Bool, true, false, ◌&&◌}
use mathlib.Core.List.{List, [], ◌∷◌}
use mathlib.Core.Option.{Option, none, some}
use mathlib.Core.Path.{◌≡◌, refl, ap, ◌∙◌}
use Rattle.ground.specs.Lists.{first_of}
use Rattle.ground.proofs.Branches.{and_left, and_right}
use Rattle.ground.proofs.Counting.{or_else_none, first_kept}
use Rattle.rules.specs.declared.Rule.TheVariants as rule
use Rattle.rules.specs.declared.Point.{Point}
use Rattle.rules.specs.declared.Refusal.{Refusal}
use Rattle.rules.specs.Ranges.{within}
use Rattle.rules.specs.Boxes.{Box, holds}
use Rattle.rules.specs.Refusals.{refuse_unless}
use Rattle.rules.specs.Told.{Checked, Tale, Told, sound, fine, refused, tell, told_checked, told_located}
use Rattle.rules.specs.TreeCalls.{point_refusal, point_tale}
use Rattle.laws.specs.Checking.{checked_by}
use Rattle.laws.proofs.Soundness.{unless_kept}

-- what a check that went on, or stopped, found
pub went_on : (x : Option Refusal) → (Ok tt) ≡ checked_by x → x ≡ none
went_on none e = refl
went_on (some r) e = cc

pub stopped : (x : Option Refusal) {r : Refusal} → Err r ≡ checked_by x → x ≡ some r
stopped none e = cc
stopped (some q) {r} e = let s : q ≡ r = cc in ap some s

-- an answer of the check tells what the rules say
pub checked_told : (x : Option Refusal) → told_checked (checked_by x) ≡ tell x sound
checked_told none = refl
checked_told (some r) = refl

-- an answer about a point tells whether it is inside
pub point_told : (b : Bool) → told_located (Ok b) ≡ fine (point_tale b)
point_told true = refl
point_told false = refl

-- a check by one rule
pub alone : (x : Option Refusal) {a : Checked} → a ≡ checked_by x → a ≡ checked_by (first_of (x ∷ []))
unfolding first_of
alone x h = h ∙ ap checked_by (or_else_none x)

-- ---- an answer by the first rule that is broken

module _ (x : Option Refusal) (xs : List (Option Refusal)) (tale : Tale) where
  pub told_now : {r : Refusal} → x ≡ some r → refused r ≡ tell (first_of (x ∷ xs)) tale
  unfolding first_of
  told_now h = rw h

  pub told_later : {told : Told} → x ≡ none → told ≡ tell (first_of xs) tale → told ≡ tell (first_of (x ∷ xs)) tale
  unfolding first_of
  told_later h e = rw h e

pub told_fine : (tale : Tale) → fine tale ≡ tell (first_of []) tale
unfolding first_of
told_fine tale = refl

-- a point that is in on each axis
pub point_holds : (b : Box) (p : Point) → point_refusal b p ≡ none → holds b p ≡ true
point_holds b p e =
    let x = within b.x p.x in
    let y = within b.y p.y in
    let z = within b.z p.z in
    let one = first_kept (refuse_unless x rule.Outside 0) (refuse_unless y rule.Outside 1 ∷ refuse_unless z rule.Outside 2 ∷ []) e in
    let two = first_kept (refuse_unless y rule.Outside 1) (refuse_unless z rule.Outside 2 ∷ []) one.1 in
    let three = first_kept (refuse_unless z rule.Outside 2) [] two.1 in
    rw (unless_kept x rule.Outside 0 one.0, unless_kept y rule.Outside 1 two.0, unless_kept z rule.Outside 2 three.0)

-- and a point that a box holds is in on each axis
pub holds_point : (b : Box) (p : Point) → holds b p ≡ true → point_refusal b p ≡ none
unfolding first_of
holds_point b p h =
    let x = within b.x p.x in
    let y = within b.y p.y in
    let z = within b.z p.z in
    rw (and_left x (y && z) h, and_left y z (and_right x (y && z) h), and_right y z (and_right x (y && z) h))
