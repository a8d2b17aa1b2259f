-- From sample to sample: the code before, the tally so far, and the patch on which the answer is known. Assumes nothing.
use Prim.Native.Nat.{ℕ, ◌+◌, ◌-◌, ◌<◌}
use native.Mathlib.Omega.{arith}
use mathlib.Core.Bool.{Bool, true}
use mathlib.Core.List.{List}
use mathlib.Core.Path.{◌≡◌, sym, ap, subst, ◌∙◌}
use lib.IntN.{ℤ}
use lib.ListN.{length}
use Rattle.rules.specs.declared.Axis.TheVariants.{Frame}
use Rattle.rules.specs.declared.Place.{Place}
use Rattle.rules.specs.declared.Point.{Point}
use Rattle.rules.specs.Frame.{code_at, sample_inside}
use Rattle.rules.specs.ListWords.{raised}
use Rattle.rules.specs.Ranges.{within, columns}
use Rattle.frame.specs.Tallies.{Tally, stepped, Running}
use Rattle.frame.proofs.Tallies.{goes_on}
use Rattle.sweep.specs.declared.Patch.{Patch}
use Rattle.sweep.specs.Seeing.{Before}
use Rattle.sweep.specs.Sweeps.{Known}

module _ (is_inside : Point → Bool) (samples : List ℤ) (place : Place) where
  abbrev pub hits : ℕ → Bool
  hits = sample_inside is_inside samples place

  -- what is known before sample k
  pub record Going (before : ℕ) (q : Patch) (t : Tally) (k : ℕ) : Type 0 where
    pub preceded : Before samples k before
    pub running : Running hits (length samples) k t
    pub known : Known is_inside place.frame q

  -- the code of sample k is the code before the next
  pub before_next : (k : ℕ) {own : ℕ} → own ≡ raised Frame (code_at samples k) → within columns (code_at samples k) ≡ true → Before samples (k + 1) own
  before_next k is ranged =
      let same : k ≡ (k + 1) - 1 = omega arith in
      let last : code_at samples k ≡ code_at samples ((k + 1) - 1) = ap (code_at samples) same in
      record { is = is ∙ ap (raised Frame) last; ranged = ap (within columns) (sym last) ∙ ranged }

  -- and it goes on with the next, by what is told of sample k
  pub goes_next : {before k : ℕ} {q : Patch} {t next : Tally} {hit : Bool} → k < length samples → Going before q t k → hit ≡ hits k → next ≡ stepped t k hit
      → {own : ℕ} → own ≡ raised Frame (code_at samples k) → within columns (code_at samples k) ≡ true → {r : Patch} → Known is_inside place.frame r → Going own r next (k + 1)
  goes_next {before} {k} {q} {t} l g told stepped_on is ranged known = record {
    preceded = before_next k is ranged;
    running = subst (λ (u : Tally). Running hits (length samples) (k + 1) u) (sym (stepped_on ∙ ap (stepped t k) told)) (goes_on hits l g.running);
    known = known;
  }
