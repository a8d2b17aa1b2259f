use Prim.Native.Nat.{ℕ, ◌<◌}
use native.Mathlib.Nat.{div-one}
use native.Mathlib.Omega.{arith}
use mathlib.Core.Bool.{Bool, not, ◌&&◌, ◌||◌}
use mathlib.Core.Path.{◌≡◌, refl, sym, ap, ap₂}
use Rattle.ground.specs.Bits.{odd}
use Rattle.rules.specs.declared.Row.{Row}
use Rattle.laws.specs.Held.{tree_says}
use Rattle.laws.specs.Sound.{RowRight}
use Rattle.laws.proofs.Trees.{read_right}
use Rattle.table.proofs.Rows.{row_there}
use Rattle.says.proofs.Saids.{said_more}
use Rattle.says.proofs.says_row.Lts as lts
use Rattle.says.proofs.says_row.Tie as tie
use Rattle.says.proofs.says_row.Reads as reads
use Rattle.says.proofs.says_row.Goals as goal

abbrev After-read_row : Type 0
After-read_row = lts.After-read_row tie.the-claims reads.Pre reads.Post tie.handed_clauses

pub read_row-reads-requires : goal.read_row-reads-requires
read_row-reads-requires c = let told = row_there c.requires.sound c.requires.row_bound in
    record { in_table = told.0; sound_row = told.1 }

-- a row that was read keeps its rules
right : (d : After-read_row) {r : Row} → d.read_row-reads.result ≡ r → RowRight d.args.row r
right d g = read_right d.requires.sound d.requires.row_bound d.read_row-reads.ensures g

under : (d : After-read_row) → d.args.row < 127
under d = omega (arith, d.requires.row_bound, d.requires.sound.not_over)

pub bounds-answers-one : goal.bounds-answers-one
bounds-answers-one c = let k = c.before.before in let d = k.before in omega (arith, (right d k.in-Union.is).0, under d)

pub bounds-answers-other : goal.bounds-answers-other
bounds-answers-other c = let k = c.before.before.before in let d = k.before in omega (arith, (right d k.in-Union.is).1, under d)

pub bounds-answers-one-in-Inter : goal.bounds-answers-one-in-Inter
bounds-answers-one-in-Inter c = let k = c.before.before in let d = k.before in omega (arith, (right d k.in-Inter.is).0, under d)

pub bounds-answers-other-in-Inter : goal.bounds-answers-other-in-Inter
bounds-answers-other-in-Inter c = let k = c.before.before.before in let d = k.before in omega (arith, (right d k.in-Inter.is).1, under d)

pub bounds-answers-one-in-Diff : goal.bounds-answers-one-in-Diff
bounds-answers-one-in-Diff c = let k = c.before.before in let d = k.before in omega (arith, (right d k.in-Diff.is).0, under d)

pub bounds-answers-other-in-Diff : goal.bounds-answers-other-in-Diff
bounds-answers-other-in-Diff c = let k = c.before.before.before in let d = k.before in omega (arith, (right d k.in-Diff.is).1, under d)

pub returns-in-Solid : goal.returns-in-Solid
unfolding tree_says
returns-in-Solid c = λ set S.
    let d = c.before.before in
    said_more d.requires.sound d.requires.row_bound d.read_row-reads.ensures c.in-Solid.is S refl (ap (λ (n : ℕ). odd n) S.past)

pub returns-in-Union : goal.returns-in-Union
unfolding tree_says
returns-in-Union c = λ set S.
    let k = c.before.before.before in
    let d = k.before in
    let g = k.in-Union.is in
    said_more d.requires.sound d.requires.row_bound d.read_row-reads.ensures g S (sym (div-one d.args.left)) (ap₂ ◌||◌ (S.each _ (right d g).0) (S.each _ (right d g).1))

pub returns-in-Inter : goal.returns-in-Inter
unfolding tree_says
returns-in-Inter c = λ set S.
    let k = c.before.before.before in
    let d = k.before in
    let g = k.in-Inter.is in
    said_more d.requires.sound d.requires.row_bound d.read_row-reads.ensures g S (sym (div-one d.args.left)) (ap₂ ◌&&◌ (S.each _ (right d g).0) (S.each _ (right d g).1))

pub returns-in-Diff : goal.returns-in-Diff
unfolding tree_says
returns-in-Diff c = λ set S.
    let k = c.before.before.before in
    let d = k.before in
    let g = k.in-Diff.is in
    said_more d.requires.sound d.requires.row_bound d.read_row-reads.ensures g S (sym (div-one d.args.left)) (ap₂ (λ (a b : Bool). a && not b) (S.each _ (right d g).0) (S.each _ (right d g).1))
