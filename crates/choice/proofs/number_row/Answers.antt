-- a primitive's number is below 64
use Prim.Native.Nat.{ℕ, ◌+◌, ◌<◌}
use native.Mathlib.Nat.{add-zero}
use native.Mathlib.Omega.{arith}
use mathlib.Core.List.{List}
use mathlib.Core.Option.{some}
use mathlib.Core.Path.{◌≡◌, sym, ap, subst, ◌∙◌}
use lib.IntN.{ℤ}
use lib.ListN.{length}
use Rattle.rules.specs.declared.Primitive.{Primitive}
use Rattle.rules.specs.declared.Row.TheVariants.{Solid}
use Rattle.laws.specs.Sound.{Sound}
use Rattle.ground.proofs.Masks.{one_shifted}
use Rattle.rules.specs.Table.{row_count, row_at, primitives_before, solid_of}
use Rattle.laws.proofs.Expansion.{number_fits}
use Rattle.choice.proofs.Steps.{number_next, numbered_on, numbered_more}
use Rattle.choice.proofs.number_row.Goals as goal

few : {t : List ℤ} → Sound t → {row : ℕ} → row < row_count t → {s : Primitive} → row_at t row ≡ some (Solid s)
    → {n : ℕ} → n ≡ length (primitives_before t row) → n < 64
few {t} sound {row} l is e = subst (λ (n : ℕ). n < 64) (sym e) (number_fits t sound row l is)

pub overflow_shl-bits : goal.overflow_shl-bits
overflow_shl-bits c = few c.requires.sound c.requires.row_bound c.in-Some.ensures.0 c.requires.n_value.0

pub overflow_add-result : goal.overflow_add-result
overflow_add-result c = record { fits = omega (arith, few c.requires.sound c.requires.row_bound c.in-Some.ensures.0 c.requires.n_value.0) }

pub returns-in-Some : goal.returns-in-Some
returns-in-Some c =
    let sound = c.requires.sound in
    let n = c.requires.n_value.0 in (
      ap (λ (n : ℕ). n + 1) n ∙ number_next sound c.args.row (ap solid_of c.in-Some.ensures.0),
      numbered_more c.requires.n_value.1 (omega (arith, sound.not_over, c.requires.row_bound)) n (one_shifted c.args.n (few sound c.requires.row_bound c.in-Some.ensures.0 n)),
    )

pub returns-in-None : goal.returns-in-None
returns-in-None c =
    let none = c.in-None.ensures in
    (c.requires.n_value.0 ∙ sym (add-zero _) ∙ number_next c.requires.sound c.args.row none, numbered_on c.requires.n_value.1 none)
