-- What the entries give of one primitive more. Assumes nothing.
use Prim.Native.Nat.{ℕ, ◌+◌, ◌^◌, ◌≤◌, ◌<◌}
use native.Mathlib.Nat.{lt_of_lt_of_le}
use native.Mathlib.Omega.{arith}
use mathlib.Core.Bool.{Bool, false}
use mathlib.Core.List.{List, [], ◌∷◌, ◌++◌}
use mathlib.Core.Path.{◌≡◌, refl, sym, ap, ap₂, ◌∙◌}
use lib.Bits.{bit_or, or_zero_r}
use lib.ListN.{length, length-append}
use Rattle.std.specs.Prelude.{if◌then◌else◌}
use Rattle.rules.specs.declared.Point.{Point}
use Rattle.rules.specs.declared.Primitive.{Primitive}
use Rattle.rules.specs.Inside.{inside_solid}
use Rattle.laws.specs.Held.{held}
use Rattle.reach.proofs.Gathering.{gathers_more}
use Rattle.span.specs.declared.Stretch.{Stretch}
use Rattle.span.specs.Along.{places, between, Along}
use Rattle.level.specs.declared.Entry.{Entry}
use Rattle.level.specs.Levels.{mark_at, set_at}
use Rattle.level.proofs.Sets.{set_push}
use Rattle.along.specs.Lines.{Lining}

-- ---- one primitive more

-- the set of one primitive more
held_more : (solids : List Primitive) (s : Primitive) (p : Point) → held (solids ++ (s ∷ [])) p ≡ bit_or (held solids p) (if inside_solid s p then 2 ^ length solids else 0)
held_more solids s p = sym (gathers_more solids s (λ q. inside_solid q p) (record { set = held solids p; count = length solids }) (record { set = refl; count = refl })).set

module _ {line : ℕ → Point} {solids : List Primitive} {from to : ℕ} {entries : List Entry} {met : ℕ} (L : Lining line solids from to entries met)
    (s : Primitive) {t : Stretch} (A : Along (λ v. inside_solid s (line v)) t) (fits : to ≤ places) where
  counted : met + 1 ≡ length (solids ++ (s ∷ []))
  counted = ap (λ (n : ℕ). n + 1) L.number ∙ sym (length-append solids (s ∷ []))

  more_held : (v : ℕ) → v < to → held (solids ++ (s ∷ [])) (line v) ≡ bit_or (held solids (line v)) (if between t v then 2 ^ met else 0)
  more_held v h =
      held_more solids s (line v)
      ∙ ap₂ (λ (b : Bool) (n : ℕ). bit_or (held solids (line v)) (if b then 2 ^ n else 0)) (A.each v (lt_of_lt_of_le h fits)) (sym L.number)

  -- none of the places is its
  pub none_kept : ((v : ℕ) → from ≤ v → v < to → between t v ≡ false) → Lining line (solids ++ (s ∷ [])) from to entries (met + 1)
  none_kept out = record {
    number = counted;
    few = omega (arith, L.few);
    each = λ v a b. more_held v b ∙ (λ i. bit_or (L.each v a b i) (if out v a b i then 2 ^ met else 0)) ∙ or_zero_r (set_at entries v);
  }

  -- it has an entry
  pub one_kept : Lining line (solids ++ (s ∷ [])) from to (entries ++ (record { mark = 2 ^ met; stretch = t } ∷ [])) (met + 1)
  one_kept =
      let e : Entry = record { mark = 2 ^ met; stretch = t } in record {
        number = counted;
        few = omega (arith, L.few, length-append entries (e ∷ []));
        each = λ v a b. more_held v b ∙ ap (λ (n : ℕ). bit_or n (mark_at e v)) (L.each v a b) ∙ sym (set_push entries v e);
      }
