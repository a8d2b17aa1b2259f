-- The highest inside place of the frames is the newest frame. Assumes nothing.
use Prim.Native.Nat.{ℕ, suc, ◌+◌, ◌-◌, ◌≤◌, ◌<◌}
use native.Mathlib.Decide.{dec_le}
use native.Mathlib.Omega.{arith}
use mathlib.Core.Bool.{Bool, true}
use mathlib.Core.Logic.{◌⊎◌, inl, inr}
use mathlib.Core.Option.{Option, none, some}
use mathlib.Core.Path.{◌≡◌, sym, ap, ◌∙◌}
use lib.IntN.{ℤ}
use Rattle.ground.proofs.Branches.{false_true}
use Rattle.ground.proofs.Finding.{First, there, nowhere, find_first}
use Rattle.rules.specs.declared.Point.{Point}
use Rattle.rules.specs.Ranges.{Span, size_of}
use Rattle.rules.specs.Waterfall.{no_frame, or_no_frame, newest, place_word}
use Rattle.laws.proofs.SpanNumbers.{down}
use Rattle.span.specs.Along.{value}
use Rattle.span.proofs.Order.{value_back, values_apart}
use Rattle.along.specs.Lines.{Highest}

module _ (is_inside : Point → Bool) (x y : ℤ) (lo hi : ℕ) (rises : lo ≤ hi) where
  abbrev frames : Span
  frames = record { lo = value lo; hi = value hi }

  abbrev at : ℤ → Bool
  at z = is_inside (record { x = x; y = y; z = z })

  -- the frame that is j from the highest is at the place that is j from the highest
  place_down : (j : ℕ) → j ≤ hi → at (down frames j) ≡ at (value (hi - j))
  place_down j l = ap at (value_back hi j l)

  as_many : size_of frames ≡ suc (hi - lo)
  as_many = ap suc (values_apart lo hi rises)

  module _ {r : ℕ} (H : Highest (λ v. at (value v)) lo (hi + 1) r) where
    -- the place that was met, where there is one, is as far from the highest as it says
    met : (j : ℕ) → lo < r → hi - (r - 1) ≡ j → at (down frames j) ≡ true
    met j l e =
        let back : hi - j ≡ r - 1 = omega (arith, H.up) in
        place_down j (omega arith) ∙ ap (λ (v : ℕ). at (value v)) back ∙ H.there l

    -- none was found, or the frame below r
    abbrev Found : Option ℤ → Type 0
    Found found = ((r ≡ lo) × (found ≡ none)) ⊎ ((lo < r) × (found ≡ some (value (r - 1))))

    found_is : {found : Option ℤ} → First at (down frames) 0 (size_of frames) found → Found found
    found_is {found} (there k a b h before is) = go (dec_le r (hi - k)) (dec_le (hi - k + 2) r)
      where
        here : k ≤ hi - lo
        here = omega (arith, as_many)

        go : Dec (r ≤ hi - k) → Dec (hi - k + 2 ≤ r) → Found found
        go (yes m) d = false_true (sym (H.above (hi - k) m (omega (arith, here))) ∙ sym (place_down k (omega (arith, here))) ∙ h)
        go (no m) (yes n) =
            let up = H.up in
            let j = hi - (r - 1) in
            false_true (sym (before j (omega arith) (omega (arith, here))) ∙ met j (omega (arith, here)) (omega arith))
        go (no m) (no n) =
            let same : hi - k ≡ r - 1 = omega arith in
            inr (omega (arith, here), is ∙ ap some (value_back hi k (omega (arith, here)) ∙ ap value same))
    found_is {found} (nowhere none_there is) = go (dec_le r lo)
      where
        go : Dec (r ≤ lo) → Found found
        go (yes m) = inl (omega (arith, H.low), is)
        go (no m) =
            let up = H.up in
            false_true (sym (none_there (hi - (r - 1)) (omega arith) (omega (arith, as_many))) ∙ met (hi - (r - 1)) (omega arith) (omega arith))

    pub none_newest : r ≡ lo → no_frame ≡ place_word is_inside frames x y
    unfolding newest
    none_newest e = go (found_is (find_first at (down frames) 0 (size_of frames)))
      where
        go : {found : Option ℤ} → Found found → no_frame ≡ or_no_frame found
        go (inl (_, is)) = ap or_no_frame (sym is)
        go (inr (l, is)) = absurd (omega arith)

    pub some_newest : (r ≡ lo → ⊥) → value (r - 1) ≡ place_word is_inside frames x y
    unfolding newest
    some_newest other = go (found_is (find_first at (down frames) 0 (size_of frames)))
      where
        go : {found : Option ℤ} → Found found → value (r - 1) ≡ or_no_frame found
        go (inl (e, is)) = absurd (other e)
        go (inr (l, is)) = ap or_no_frame (sym is)
