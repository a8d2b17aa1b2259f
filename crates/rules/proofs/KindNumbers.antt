-- A kind and its number name each other. Assumes nothing.
use mathlib.Core.Bool.{Bool, true, false}
use mathlib.Core.Option.{none, some}
use mathlib.Core.Path.{◌≡◌, refl, ap}
use mir.Syntax.{w32}
use mir.Val.{of_z}
use lib.IntN.{ℤ, pos}
use Rattle.ground.specs.Tests.{eq_z}
use Rattle.ground.specs.Lists.{find_if}
use Rattle.ground.proofs.Lists.{found, not_found}
use Rattle.ground.proofs.Pieces.{all_each}
use Rattle.ground.proofs.Signed.{eq_z_eq, eq_z_ne}
use Rattle.rules.specs.declared.Kind.{Kind}
use Rattle.rules.specs.declared.Kind.TheVariants.{Box, Wedge, Drum, Union, Inter, Diff, Triangle}
use Rattle.rules.specs.Kinds.{kinds, kind_number, kind_of}

pub number_kind : (k : Kind) → kind_of (pos (kind_number k)) ≡ some k
unfolding find_if
number_kind Box = refl
number_kind Wedge = refl
number_kind Drum = refl
number_kind Union = refl
number_kind Inter = refl
number_kind Diff = refl
number_kind Triangle = refl

pub number_of_kind : (z : ℤ) {k : Kind} → kind_of z ≡ some k → z ≡ pos (kind_number k)
number_of_kind z {k} e = found Is test kinds (all_each (λ kind. test kind ≡ true → Is kind) (λ kind. eq_z_eq z (pos (kind_number kind))) kinds) e
  where
    Is : Kind → Type 0
    Is kind = z ≡ pos (kind_number kind)

    test : Kind → Bool
    test kind = eq_z z (pos (kind_number kind))

pub no_kind : (z : ℤ) → ((k : Kind) → z ≡ pos (kind_number k) → ⊥) → kind_of z ≡ none
no_kind z h = not_found (λ kind. eq_z z (pos (kind_number kind))) kinds (at Box, (at Wedge, (at Drum, (at Union, (at Inter, (at Diff, (at Triangle, tt)))))))
  where
    at : (k : Kind) → eq_z z (pos (kind_number k)) ≡ false
    at k = eq_z_ne z (pos (kind_number k)) (h k)

-- the bits of a word that names no kind are no kind's number
pub none_of : (z : ℤ) → ((k : Kind) → of_z w32 z ≡ kind_number k → ⊥) → kind_of z ≡ none
none_of z f = no_kind z (λ k e. f k (ap (of_z w32) e))
