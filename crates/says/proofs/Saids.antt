-- One row's answer more. Assumes nothing.
use Prim.Native.Nat.{ℕ, ◌+◌, ◌≤◌, ◌<◌, ◌/◌, ◌^◌}
use native.Mathlib.Nat.{eq-or-lt_of_le}
use native.Mathlib.Omega.{arith}
use mathlib.Core.Bool.{Bool, false}
use mathlib.Core.List.{List}
use mathlib.Core.Logic.{⊎_elim}
use mathlib.Core.Option.{Option, some}
use mathlib.Core.Path.{◌≡◌, sym, ap, subst, ◌∙◌}
use lib.IntN.{ℤ}
use lib.ListN.{length, get_or, set, length-append, length-set}
use lib.Pow.{shr-shr}
use lib.Seq.{get_or-set_same, get_or-set_other}
use Rattle.ground.proofs.Counting.{flat_map_next}
use Rattle.rules.specs.declared.Row.{Row}
use Rattle.rules.specs.Table.{row_count, row_at, solid_of, primitives_before}
use Rattle.rules.specs.Tree.{Tree, row_tree, tree_at}
use Rattle.laws.specs.Held.{tree_says}
use Rattle.laws.specs.Sound.{Sound}
use Rattle.laws.proofs.Trees.{read_tree}
use Rattle.says.specs.Saids.{Said}

-- a row that was read as r: its primitive, if it is one, takes a bit of what was left of the set
module _ {t : List ℤ} (S : Sound t) {row : ℕ} (l : row < row_count t) {x r : Row} (e : some x ≡ row_at t row) (g : x ≡ r) where
  pub said_more : {bits left next : ℕ} {answers : List Bool} {b : Bool} → Said t bits row left answers → next ≡ left / 2 ^ length (solid_of (some r))
      → b ≡ tree_says (row_tree (length (primitives_before t row)) (tree_at t) (some r)) bits → Said t bits (row + 1) next (set answers row b)
  said_more {bits} {answers = answers} {b = b} before n a = record {
    past = n ∙ ap (λ (left : ℕ). left / 2 ^ length (solid_of (some r))) before.past ∙ shr-shr bits (length (primitives_before t row)) (length (solid_of (some r)))
        ∙ ap (λ (k : ℕ). bits / 2 ^ k) (sym taken);
    size = length-set answers row b ∙ before.size;
    each = λ q k. ⊎_elim
        (λ last. subst (λ (i : ℕ). get_or (set answers row b) i false ≡ tree_says (tree_at t i) bits) (sym last)
        (get_or-set_same answers row b false (omega (arith, before.size, S.not_over)) ∙ a ∙ ap (λ (tree : Tree). tree_says tree bits) (sym (read_tree S l e g))))
        (λ earlier. get_or-set_other answers row q b false (λ i. omega (arith, i, earlier)) ∙ before.each q earlier)
        (eq-or-lt_of_le (up_to q k));
  }
    where
      taken : length (primitives_before t (row + 1)) ≡ length (primitives_before t row) + length (solid_of (some r))
      taken =
          ap length (flat_map_next (λ k. solid_of (row_at t k)) row)
          ∙ length-append (primitives_before t row) (solid_of (row_at t row))
          ∙ ap (λ (o : Option Row). length (primitives_before t row) + length (solid_of o)) (sym e ∙ ap some g)

      up_to : (q : ℕ) → q < row + 1 → q ≤ row
      up_to q k = omega arith
