-- A search by a list sees the number of a frame only through whether it is in range. Assumes nothing.
use Prim.Native.Nat.{ℕ, suc, ◌+◌, ◌-◌, ◌<◌}
use native.Mathlib.Omega.{arith}
use mathlib.Core.Bool.{Bool, true, false, cond, ◌||◌}
use mathlib.Core.List.{List, [], ◌∷◌}
use mathlib.Core.Option.{Option, none, some}
use mathlib.Core.Path.{◌≡◌, refl, sym, ap, ap₂, ◌∙◌}
use borrow.Author.Tests.{ltb-true, ltb-false, lt-leb}
use lib.Dec.{eqb, ltb}
use lib.IntN.{ℤ, pos, negsuc, ◌+ℤ◌}
use lib.ListN.{length, take, drop}
use lib.Signed.{mag, lt_z}
use mir.Syntax.{w32}
use mir.Val.{SFits}
use Rattle.ground.specs.Lists.{below, all_of, first_of}
use Rattle.rules.specs.declared.Rule.TheVariants as rule
use Rattle.rules.specs.declared.Axis.TheVariants.{Frame}
use Rattle.rules.specs.declared.Place.{Place}
use Rattle.rules.specs.declared.Refusal.{Refusal}
use Rattle.rules.specs.declared.Searched.{Searched}
use Rattle.rules.specs.Frame.{most_samples, leaves_refusal, first_inside, inside_count}
use Rattle.rules.specs.ListCalls.{accept_refusal, list_search_told, ListSearched}
use Rattle.rules.specs.ListInside.{inside_list}
use Rattle.rules.specs.ListWords.{list_window}
use Rattle.rules.specs.Ranges.{within, greatest, columns, frames}
use Rattle.rules.specs.Screen.{most_frames}
use Rattle.rules.specs.Refusals.{refuse, refuse_if, refuse_unless}
use Rattle.rules.specs.Table.{primitives}
use Rattle.rules.specs.Told.{Tale, Told, tell}
use Rattle.rules.specs.TreeCalls.{search_tale}
use Rattle.screen.specs.Places.{Alike, same, beyond}

-- the frame is refused, so that neither its window nor what it hits is looked at
refused_alike : (accept length columns : Option Refusal) (u v : Option Refusal) (m n : Tale)
    → tell (first_of (accept ∷ first_of (length ∷ columns ∷ refuse rule.Frame 2 ∷ []) ∷ u ∷ [])) m
    ≡ tell (first_of (accept ∷ first_of (length ∷ columns ∷ refuse rule.Frame 2 ∷ []) ∷ v ∷ [])) n
unfolding first_of
refused_alike (some q) length reach u v m n = refl
refused_alike none (some q) reach u v m n = refl
refused_alike none none (some q) u v m n = refl
refused_alike none none none u v m n = refl

module _ (t : List ℤ) (list : List ℕ) (samples : List ℤ) where
  -- what is told, by the first column and whether the number is in range; the rest goes by the place
  abbrev told : Place → ℤ → Bool → Told
  told place first in_range =
      let is_inside = inside_list (primitives t) list in
      tell
      (first_of
      (accept_refusal t list
      ∷ first_of
      (refuse_if (eqb (length samples) 0 || ltb most_samples (length samples)) rule.Frame 0
      ∷ refuse_unless (all_of (λ k. within columns (first +ℤ pos k)) (below (length samples))) rule.Frame 1
      ∷ refuse_unless in_range rule.Frame 2
      ∷ [])
      ∷ leaves_refusal (list_window list) samples place
      ∷ []))
      (search_tale (first_inside is_inside samples place) (inside_count is_inside samples place))

  told_alike : {a b : Place} → Alike a b → list_search_told t list samples a ≡ list_search_told t list samples b
  told_alike (same e) = ap (list_search_told t list samples) e
  told_alike {a} {b} (beyond first out out-too) =
      ap (told a a.first) out ∙ refused_alike _ _ _ _ _ _ _ ∙ sym (λ i. told b (back i) (out-too i))
    where
      back : b.first ≡ a.first
      back = sym first

  pub by_place : {a b : Place} → Alike a b → {r : Searched} → ListSearched t list samples a r → ListSearched t list samples b r
  by_place alike met = record { answer = met.answer ∙ told_alike alike }

-- ---- the part of the codes that is a frame, by the numbers that the code has for its length and its start

pub by_part : (t : List ℤ) (list : List ℕ) (codes : List ℤ) (place : Place) {r : Searched} {m n size start : ℕ}
    → ListSearched t list (take m (drop n codes)) place r → m ≡ size → n ≡ start → ListSearched t list (take size (drop start codes)) place r
by_part t list codes place met same_size same_start =
    record { answer = met.answer ∙ ap₂ (λ (m n : ℕ). list_search_told t list (take m (drop n codes)) place) same_size same_start }

-- ---- the number of a later frame

-- past the range, and so is each later one
pub past : (z : ℤ) (j : ℕ) → lt_z (pos (greatest Frame)) z ≡ true → within frames (z +ℤ pos j) ≡ false
past (pos n) j h = lt-leb (n + j) (greatest Frame) (omega (arith, ltb-true (greatest Frame) n h))
past (negsuc n) j h = cc

-- not past the range: 32 bits hold those of a screenful
pub sum_fits : (z : ℤ) (j : ℕ) → SFits w32 z → lt_z (pos (greatest Frame)) z ≡ false → j < most_frames → SFits w32 (z +ℤ pos j)
sum_fits (pos n) j f h l = record { sfits = omega (arith, ltb-false (greatest Frame) n h) }
sum_fits (negsuc n) j f h l = record { sfits = go (ltb j (suc n)) }
  where
    go : (b : Bool) → mag (cond b (negsuc (suc n - suc j)) (pos (j - suc n))) < 2147483648
    go true = omega (arith, f.sfits)
    go false = omega arith
