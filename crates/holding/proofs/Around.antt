-- One primitive more, and the set of primitives throughout the rectangle. Assumes nothing.
use Prim.Native.Nat.{ℕ, ◌+◌, ◌*◌, ◌≤◌}
use native.Mathlib.Omega.{arith}
use mathlib.Core.Bool.{Bool, true}
use mathlib.Core.List.{List, [], ◌∷◌, ◌++◌}
use mathlib.Core.Path.{◌≡◌, refl, sym, ap, ap₂, ◌∙◌}
use Rattle.ground.specs.Bits.{places_of}
use Rattle.ground.specs.Lists.{All}
use Rattle.std.specs.Prelude.{if◌then◌else◌}
use Rattle.ground.proofs.Lists.{all_append, all_map}
use Rattle.rules.specs.declared.Axis.TheVariants.{Frame}
use Rattle.rules.specs.declared.Point.{Point}
use Rattle.rules.specs.declared.Primitive.{Primitive}
use Rattle.rules.specs.Boxes.{holds, everywhere}
use Rattle.rules.specs.Inside.{inside_solid}
use Rattle.rules.specs.ListWords.{most_word, raised}
use Rattle.laws.specs.Held.{held}
use Rattle.laws.proofs.Ranges.{framed, x_in, y_in}
use Rattle.reach.specs.Gathering.{with_one}
use Rattle.reach.proofs.Gathering.{gathers_more}
use Rattle.span.proofs.Order.{place_below}
use Rattle.margin.specs.Margins.{spot}
use Rattle.margin.proofs.Spots.{spot_here}
use Rattle.calm.specs.declared.Rect.{Rect}
use Rattle.calm.specs.Calms.{In, NarrowedBy}
use Rattle.holding.specs.declared.Held.{Held}
use Rattle.holding.specs.Holding.{holding, SaysOne, Holding}

pub holding_none : (p : Point) → holds everywhere p ≡ true → Holding [] p (record { found = record { set = 0; count = 0 }; rect = record { until = most_word Frame; floor = 0; roof = most_word Frame } })
unfolding places_of
holding_none p h = record {
  found = record { set = refl; count = refl };
  here = omega (arith, place_below p.x (framed p.x (x_in p h)), place_below p.y (framed p.y (y_in p h)));
  each = tt;
}

pub holding_more : {solids : List Primitive} {p : Point} {h : Held} {q : Rect} (s : Primitive) → Holding solids p h → NarrowedBy s p h.rect q
    → Holding (solids ++ (s ∷ [])) p (record { found = with_one h.found (inside_solid s p); rect = q })
holding_more {solids} {p} {h} {q} s H N = record {
  found = gathers_more solids s (holding p) h.found H.found;
  here = N.here;
  each = all_append (SaysOne p q) solids (s ∷ [])
      (all_map (SaysOne p h.rect) (SaysOne p q) (λ x S. record { each = λ a b l J. S.each a b l (N.part a b J) }) solids H.each) (N.same, tt);
}

places_same : {A : Type 0} (f g : A → Bool) (xs : List A) → All (λ x. f x ≡ g x) xs → places_of f xs ≡ places_of g xs
unfolding places_of
places_same f g [] h = refl
places_same f g (x ∷ xs) h = ap₂ (λ (b : Bool) (n : ℕ). (if b then 1 else 0) + 2 * n) h.0 (places_same f g xs h.1)

-- throughout the rectangle the same primitives hold
pub held_around : {solids : List Primitive} {p : Point} {h : Held} → holds everywhere p ≡ true → Holding solids p h → (a b : ℕ) → raised Frame p.x ≤ a → In a b h.rect
    → held solids (spot p.z a b) ≡ h.found.set
held_around {solids} {p} {h} in_range H a b l J =
    let own = spot p.z (raised Frame p.x) (raised Frame p.y) in
    places_same (λ s. inside_solid s (spot p.z a b)) (λ s. inside_solid s own) solids
    (all_map (SaysOne p h.rect) (λ s. inside_solid s (spot p.z a b) ≡ inside_solid s own) (λ s S. S.each a b l J) solids H.each)
    ∙ ap (held solids) (spot_here p in_range)
    ∙ sym H.found.set
