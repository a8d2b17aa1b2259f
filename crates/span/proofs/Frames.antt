-- What a primitive holds of a place's frames: a box, a drum and a triangle all of their own or none; a wedge those that its half space has. Assumes
-- nothing.
use mathlib.Core.Bool.{Bool, true, false, ◌&&◌, and-true, and-false}
use mathlib.Core.Path.{◌≡◌, refl, sym, ap, ◌∙◌}
use lib.IntN.{ℤ, ◌+ℤ◌, ◌*ℤ◌}
use lib.Signed.{le_z}
use Rattle.ground.proofs.Branches.{false_true}
use Rattle.ground.proofs.Differences.{le_over}
use Rattle.rules.specs.declared.BoxShape.{BoxShape}
use Rattle.rules.specs.declared.Point.{Point}
use Rattle.rules.specs.declared.WedgeShape.{WedgeShape}
use Rattle.rules.specs.Boxes.{holds}
use Rattle.rules.specs.Inside.{bounds, half_space, inside_wedge}
use Rattle.rules.specs.Ranges.{Span, within}
use Rattle.span.specs.declared.Stretch.{Stretch}
use Rattle.span.specs.Along.{value, Along, frame_point, over, plane_left}
use Rattle.span.proofs.Along.{as_along}

-- ---- frames, where something else lets them through

module _ (s : Span) (held : Bool) {r : Stretch} where
  pub held_frames : held ≡ true → Along (λ v. within s (value v)) r → Along (λ v. within s (value v) && held) r
  held_frames h A = as_along (λ v l. ap (λ (b : Bool). within s (value v) && b) h ∙ and-true (within s (value v))) A

  pub no_frames : held ≡ false → Along (λ v. false) r → Along (λ v. within s (value v) && held) r
  no_frames h A = as_along (λ v l. ap (λ (b : Bool). within s (value v) && b) h ∙ and-false (within s (value v))) A

-- ---- a box: its columns and codes let its frames through

module _ (b : BoxShape) (p : Point) where
  pub over_frames : {r : Stretch} → Along (λ v. within (bounds b).z (value v) && over (bounds b) p) r → Along (λ v. holds (bounds b) (frame_point p v)) r
  over_frames A = as_along (λ v l. last (within (bounds b).x p.x) (within (bounds b).y p.y) (within (bounds b).z (value v))) A
    where
      last : (x y z : Bool) → (x && (y && z)) ≡ (z && (x && y))
      last x y true = ap (λ (t : Bool). x && t) (and-true y)
      last x y false = ap (λ (t : Bool). x && t) (and-false y) ∙ and-false x

-- ---- a wedge: its box and its half space

module _ (w : WedgeShape) (p : Point) where
  by_frame : (z : ℤ) → half_space w.a w.b w.c w.d p.x p.y z ≡ le_z (w.c *ℤ z) (plane_left w.a p.x w.b p.y w.d)
  by_frame z = le_over (w.a *ℤ p.x +ℤ w.b *ℤ p.y) (w.c *ℤ z) w.d

  pub wedge_frames_meet : {r : Stretch} → over (bounds w.bounds) p ≡ true
      → Along (λ v. within (bounds w.bounds).z (value v) && le_z (w.c *ℤ value v) (plane_left w.a p.x w.b p.y w.d)) r
      → Along (λ v. inside_wedge w (frame_point p v)) r
  wedge_frames_meet h A =
      as_along (λ v l. last (within (bounds w.bounds).x p.x) (within (bounds w.bounds).y p.y) (within (bounds w.bounds).z (value v)) _ _ h (by_frame (value v))) A
    where
      last : (x y z half given : Bool) → (x && y) ≡ true → half ≡ given → ((x && (y && z)) && half) ≡ (z && given)
      last true true z half given e same = ap (λ (t : Bool). z && t) same
      last true false z half given e same = false_true e
      last false y z half given e same = false_true e

  pub wedge_frames_miss : {r : Stretch} → over (bounds w.bounds) p ≡ false → Along (λ v. false) r → Along (λ v. inside_wedge w (frame_point p v)) r
  wedge_frames_miss h A =
      as_along (λ v l. out (within (bounds w.bounds).x p.x) (within (bounds w.bounds).y p.y) (within (bounds w.bounds).z (value v)) _ h) A
    where
      out : (x y z half : Bool) → (x && y) ≡ false → ((x && (y && z)) && half) ≡ false
      out true true z half e = false_true (sym e)
      out true false z half e = refl
      out false y z half e = refl
