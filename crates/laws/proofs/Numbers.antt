-- A primitive stands among the table's primitives at its number. Assumes nothing.
use Prim.Native.Nat.{ℕ, zero, suc, ◌≤◌, ◌<◌}
use native.Mathlib.Nat.{eq-or-lt_of_le, le_of_suc-le-suc}
use native.Mathlib.Omega.{arith}
use mathlib.Core.List.{List, [], ◌∷◌, ◌++◌, append-nil, append_assoc}
use mathlib.Core.Logic.{⊎_elim}
use mathlib.Core.Option.{Option, some}
use mathlib.Core.Path.{◌≡◌, sym, ap, ◌∙◌}
use lib.IntN.{ℤ}
use lib.ListN.{length, get_or}
use lib.Seq.{get_or-append_seam}
use Rattle.rules.specs.declared.Primitive.{Primitive}
use Rattle.rules.specs.declared.Row.{Row}
use Rattle.rules.specs.declared.Row.TheVariants.{Solid}
use Rattle.rules.specs.Table.{row_count, row_at, solid_of, primitives_before, primitives}
use Rattle.rules.specs.Tree.{nowhere}
use Rattle.ground.proofs.Namings.{next_row}

module _ (t : List ℤ) where
  next_primitives : (row : ℕ) → primitives_before t (suc row) ≡ primitives_before t row ++ solid_of (row_at t row)
  next_primitives row = next_row (λ r. solid_of (row_at t r)) row

  -- later rows only add primitives
  more_primitives : (a b : ℕ) → a ≤ b → (more : List Primitive) × (primitives_before t b ≡ primitives_before t a ++ more)
  more_primitives a zero h = let e : a ≡ 0 = omega arith in ([], ap (primitives_before t) (sym e) ∙ sym (append-nil (primitives_before t a)))
  more_primitives a (suc b) h =
      ⊎_elim
      (λ e. ([], ap (primitives_before t) (sym e) ∙ sym (append-nil (primitives_before t a))))
      (λ l. let r = more_primitives a b (le_of_suc-le-suc l) in (
        r.0 ++ solid_of (row_at t b),
        next_primitives b ∙ ap (λ (ps : List Primitive). ps ++ solid_of (row_at t b)) r.1 ∙ append_assoc (primitives_before t a) r.0 (solid_of (row_at t b)),
      ))
      (eq-or-lt_of_le h)

  -- a primitive stands at its number
  pub at_number : (row : ℕ) {s : Primitive} → row < row_count t → row_at t row ≡ some (Solid s) → get_or (primitives t) (length (primitives_before t row)) nowhere ≡ s
  at_number row {s} l e =
      let rest = more_primitives (suc row) (row_count t) l in
      let split : primitives t ≡ primitives_before t row ++ (s ∷ rest.0) =
      rest.1 ∙ ap (λ (ps : List Primitive). ps ++ rest.0) (next_primitives row ∙ ap (λ (r : Option Row). primitives_before t row ++ solid_of r) e)
      ∙ append_assoc (primitives_before t row) (s ∷ []) rest.0 in
      ap (λ (ps : List Primitive). get_or ps (length (primitives_before t row)) nowhere) split ∙ get_or-append_seam (primitives_before t row) s rest.0 nowhere
