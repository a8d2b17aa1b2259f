use Prim.Native.Nat.{ℕ, ◌≤◌, ◌+◌, ◌*◌, ◌<◌}
use native.Mathlib.Omega.{arith}
use mathlib.Core.List.{List, [], ◌∷◌}
use mathlib.Core.Path.{◌≡◌, sym, ap, subst, ◌∙◌}
use lib.IntN.{ℤ}
use lib.ListN.{length, get_or}
use Rattle.rules.specs.Table.{row_at}
use Rattle.rules.specs.Verdict.{children_of}
use Rattle.table.proofs.Tally.{times_length, times_few, bumped_few, times_more, two_earlier}
use Rattle.table.specs.Reading.{bumped, tallied}
use Rattle.table.proofs.checking.count_children.Goals as goal
use Rattle.table.proofs.checking.count_children.Goals.{In-Some}

-- where the row names two children
module _ (c : In-Some) where
  abbrev table : List ℤ
  table = c.args.table.now

  abbrev row : ℕ
  row = c.args.row

  abbrev times : List ℕ
  times = c.args.times.now

  abbrev left : ℕ
  left = c.in-Some.left

  abbrev right : ℕ
  right = c.in-Some.right

  are : (left ∷ right ∷ []) ≡ children_of (row_at table row)
  are = c.in-Some.ensures

  earlier : (left < row) × (right < row)
  earlier = two_earlier c.requires.sound_row are

  whole : length times ≡ 127
  whole = ap length c.requires.times_value ∙ times_length table row

  few : (j : ℕ) → j < row → get_or times j 0 ≤ 2 * row
  few j h = subst (λ (l : List ℕ). get_or l j 0 ≤ 2 * row) (sym c.requires.times_value) (times_few table row j (omega (arith, c.requires.row_bound)))

  few_again : get_or (bumped times left) right 0 ≤ 2 * row + 1
  few_again = omega (arith, bumped_few times left right (omega (arith, whole, earlier.1, c.requires.row_bound)), few right earlier.1)

pub bounds-times-left : goal.bounds-times-left
bounds-times-left c = let d = c.before.before in omega (arith, (earlier d).0)

pub overflow_add-times : goal.overflow_add-times
overflow_add-times c = let d = c.before.before in omega (arith, few d (left d) (earlier d).0)

pub bounds-times-left-in-Some : goal.bounds-times-left-in-Some
bounds-times-left-in-Some c = let d = c.before.before in omega (arith, (earlier d).0)

pub bounds-times-right : goal.bounds-times-right
bounds-times-right c = let d = c.before.before in omega (arith, (earlier d).1)

pub overflow_add-times-in-Some : goal.overflow_add-times-in-Some
overflow_add-times-in-Some c = let d = c.before.before.before in omega (arith, few_again d)

pub bounds-times-right-in-Some : goal.bounds-times-right-in-Some
bounds-times-right-in-Some c = let d = c.before.before.before in omega (arith, (earlier d).1)

pub returns-in-Some : goal.returns-in-Some
unfolding tallied
returns-in-Some c =
    let d = c.before.before.before in
    ap (λ (l : List ℕ). bumped (bumped l (left d)) (right d)) c.requires.times_value ∙ times_more c.args.table.now c.args.row (are d)

pub returns-in_default : goal.returns-in_default
unfolding tallied
returns-in_default c = c.requires.times_value ∙ times_more c.args.table.now c.args.row c.in_default.ensures
