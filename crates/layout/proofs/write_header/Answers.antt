-- each bound fits its 32 bits
use Prim.Native.Nat.{ℕ}
use native.Mathlib.Omega.{arith}
use mathlib.Core.List.{[], ◌∷◌}
use mathlib.Core.Path.{◌≡◌, ap, ◌∙◌}
use borrow.Author.Rules.{rules}
use lib.IntN.{ℤ}
use lib.ListN.{length-set}
use lib.Seq.{sets}
use mir.Syntax.{w32}
use mir.Val.{SFits, to_z, of_z}
use mir.ValLaws.{to_z-of_z}
use Rattle.ground.proofs.Signed.{reread}
use Rattle.rules.specs.declared.Axis.{Axis}
use Rattle.rules.specs.declared.Axis.TheVariants.{Column, Code, Frame}
use Rattle.rules.specs.ListWords.{raised}
use Rattle.rules.specs.Ranges.{within, range}
use Rattle.laws.proofs.Windows.{window_right}
use Rattle.layout.proofs.write_header.Lts as lts
use Rattle.layout.proofs.write_header.Tie as tie
use Rattle.layout.proofs.write_header.Reads as reads
use Rattle.layout.proofs.write_header.Goals as goal

abbrev Start : Type 0
Start = lts.Start tie.the-claims reads.Pre reads.Post tie.handed_clauses

record Bounds (s : Start) : Type 0 where
  xlo : SFits w32 s.args.w.xlo
  xhi : SFits w32 s.args.w.xhi
  ylo : SFits w32 s.args.w.ylo
  yhi : SFits w32 s.args.w.yhi
  zlo : SFits w32 s.args.w.zlo
  zhi : SFits w32 s.args.w.zhi

fits : (s : Start) → Bounds s
fits s = record { xlo = search rules; xhi = search rules; ylo = search rules; yhi = search rules; zlo = search rules; zhi = search rules }

-- a bound that was raised, as it was lent
lent : (axis : Axis) {z : ℤ} {n : ℕ} → SFits w32 z → n ≡ raised axis (to_z w32 (of_z w32 z)) → n ≡ raised axis z
lent axis {z} f e = e ∙ ap (raised axis) (to_z-of_z w32 z f)

pub raise-requires : goal.raise-requires
raise-requires c =
    let s = c.before.before.before in
    reread w32 (within (range Column)) (fits s).xlo (window_right s.args.w s.requires.w_value).x.lo_in

pub bounds-list-1 : goal.bounds-list-1
bounds-list-1 c = simp length-set (omega (arith, c.requires.header_words_in_bounds))

pub raise-requires-2 : goal.raise-requires-2
raise-requires-2 c =
    let s = c.before.before.before.before.before in
    reread w32 (within (range Column)) (fits s).xhi (window_right s.args.w s.requires.w_value).x.hi_in

pub bounds-list-2 : goal.bounds-list-2
bounds-list-2 c =
    let at_raise = c.before.before.before in
    simp length-set (omega (arith, at_raise.requires.header_words_in_bounds))

pub raise-requires-3 : goal.raise-requires-3
raise-requires-3 c =
    let at_raise = c.before.before.before.before in
    let s = at_raise.before.before.before in
    reread w32 (within (range Code)) (fits s).ylo (window_right s.args.w s.requires.w_value).y.lo_in

pub bounds-list-3 : goal.bounds-list-3
bounds-list-3 c =
    let at_raise = c.before.before.before.before.before in
    simp length-set (omega (arith, at_raise.requires.header_words_in_bounds))

pub raise-requires-4 : goal.raise-requires-4
raise-requires-4 c =
    let at_raise2 = c.before.before.before.before in
    let at_raise = at_raise2.before.before in
    let s = at_raise.before.before.before in
    reread w32 (within (range Code)) (fits s).yhi (window_right s.args.w s.requires.w_value).y.hi_in

pub bounds-list-4 : goal.bounds-list-4
bounds-list-4 c =
    let at_raise2 = c.before.before.before.before.before in
    let at_raise = at_raise2.before.before in
    simp length-set (omega (arith, at_raise.requires.header_words_in_bounds))

pub raise-requires-5 : goal.raise-requires-5
raise-requires-5 c =
    let at_raise3 = c.before.before.before.before in
    let at_raise = at_raise3.before.before.before.before in
    let s = at_raise.before.before.before in
    reread w32 (within (range Frame)) (fits s).zlo (window_right s.args.w s.requires.w_value).z.lo_in

pub bounds-list-5 : goal.bounds-list-5
bounds-list-5 c =
    let at_raise3 = c.before.before.before.before.before in
    let at_raise = at_raise3.before.before.before.before in
    simp length-set (omega (arith, at_raise.requires.header_words_in_bounds))

pub raise-requires-6 : goal.raise-requires-6
raise-requires-6 c =
    let at_raise4 = c.before.before.before.before in
    let at_raise2 = at_raise4.before.before.before.before in
    let at_raise = at_raise2.before.before in
    let s = at_raise.before.before.before in
    reread w32 (within (range Frame)) (fits s).zhi (window_right s.args.w s.requires.w_value).z.hi_in

pub bounds-list-6 : goal.bounds-list-6
bounds-list-6 c =
    let at_raise4 = c.before.before.before.before in
    let at_raise2 = at_raise4.before.before.before.before in
    let at_raise = at_raise2.before.before in
    simp length-set (omega (arith, at_raise.requires.header_words_in_bounds))

pub bounds-list-7 : goal.bounds-list-7
bounds-list-7 c =
    let at_raise4 = c.before.before.before.before in
    let at_raise2 = at_raise4.before.before.before.before in
    let at_raise = at_raise2.before.before in
    simp length-set (omega (arith, at_raise.requires.header_words_in_bounds))

pub returns : goal.returns
returns c =
    let at_raise4 = c.before.before.before.before in
    let at_raise3 = at_raise4.before.before in
    let at_raise2 = at_raise3.before.before in
    let at_raise = at_raise2.before.before in
    let s = at_raise.before.before.before in
    let f = fits s in
    let xlo = lent Column f.xlo at_raise.raise.ensures in
    let xhi = lent Column f.xhi at_raise2.raise-2.ensures in
    let ylo = lent Code f.ylo at_raise3.raise-3.ensures in
    let yhi = lent Code f.yhi at_raise4.raise-4.ensures in
    let zlo = lent Frame f.zlo c.raise-5.ensures in
    let zhi = lent Frame f.zhi c.raise-6.ensures in
    λ i. sets s.args.list.now 0 (s.args.products ∷ xlo i ∷ xhi i ∷ ylo i ∷ yhi i ∷ zlo i ∷ zhi i ∷ s.args.primitives ∷ [])
