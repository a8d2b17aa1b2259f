use Prim.Native.Nat.{ℕ, suc, ◌+◌}
use native.Mathlib.Numerals.{add-one}
use native.Mathlib.Omega.{arith}
use mathlib.Core.Path.{◌≡◌, refl}
use lib.ListN.{length-set}
use Rattle.screen.proofs.put_words.Goals as goal

add_two : (n : ℕ) → n + 2 ≡ suc (suc n)
add_two n = omega arith

pub bounds-triples-at-2 : goal.bounds-triples-at-2
bounds-triples-at-2 c = simp length-set (omega (arith, c.requires))

pub bounds-triples-at-3 : goal.bounds-triples-at-3
bounds-triples-at-3 c = simp length-set (omega (arith, c.requires))

pub returns : goal.returns
returns c = rw (add-one, add_two) refl
