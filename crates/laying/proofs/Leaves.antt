-- A leaf of a plan is a primitive of the table, and what it reaches is what shares a point with its box. Assumes nothing.
use Prim.Native.Nat.{ℕ, ◌<◌}
use native.Mathlib.Omega.{arith}
use mathlib.Core.Bool.{Bool, true, false}
use mathlib.Core.List.{List}
use mathlib.Core.Option.{some}
use mathlib.Core.Path.{◌≡◌, sym, ap, ◌∙◌}
use lib.Bits.{bit_and}
use lib.IntN.{ℤ}
use lib.ListN.{length, get_or, length-map}
use Rattle.std.specs.Prelude.{if◌then◌else◌}
use Rattle.ground.proofs.Lists.{map_at}
use Rattle.rules.specs.declared.Primitive.{Primitive}
use Rattle.rules.specs.declared.Row.{Row}
use Rattle.rules.specs.declared.Row.TheVariants.{Solid, Union, Inter, Diff}
use Rattle.rules.specs.Products.{box_of}
use Rattle.rules.specs.Table.{row_count, row_at, primitives_before, primitives}
use Rattle.rules.specs.Tree.{nowhere, row_tree, tree_at}
use Rattle.laws.specs.Plans.{Plan, with_it, without, either, both, plan}
use Rattle.laws.specs.Reach.{sharing, meetings}
use Rattle.laws.specs.Sound.{Sound}
use Rattle.laws.proofs.Apart.{number_below, few_primitives}
use Rattle.laws.proofs.Numbers.{at_number}
use Rattle.laws.proofs.Trees.{tree_row}
use Rattle.choice.specs.Steps.{side_of, plan_at}
use Rattle.rows.specs.Masks.{span}
use Rattle.walk.proofs.Sets.{cut_one}

-- a row that is a leaf
pub record IsLeaf (t : List ℤ) (row i : ℕ) : Type 0 where
  pub primitive : Primitive
  pub reads : row_at t row ≡ some (Solid primitive)
  pub numbered : i ≡ length (primitives_before t row)

no_either : {a b : Plan} (i : ℕ) {A : Type 0} → (chosen : Bool) → either a b ≡ (if chosen then with_it i else without i) → A
no_either i true e = let z : ◌≡◌ {A = ℕ} 0 1 = cc in absurd (omega arith)
no_either i false e = let z : ◌≡◌ {A = ℕ} 0 1 = cc in absurd (omega arith)

no_both : {a b : Plan} (i : ℕ) {A : Type 0} → (chosen : Bool) → both a b ≡ (if chosen then with_it i else without i) → A
no_both i true e = let z : ◌≡◌ {A = ℕ} 0 1 = cc in absurd (omega arith)
no_both i false e = let z : ◌≡◌ {A = ℕ} 0 1 = cc in absurd (omega arith)

module _ (t : List ℤ) (S : Sound t) (row : ℕ) (l : row < row_count t) where
  pub leaf_row : (within chosen : Bool) (i : ℕ) → plan_at t row within ≡ (if chosen then with_it i else without i) → IsLeaf t row i
  unfolding plan_at plan
  leaf_row within chosen i e = go (S.rows row l).reads (S.rows row l).is within chosen
      (sym (ap (plan (side_of within)) (tree_row t S row l ∙ ap (row_tree (length (primitives_before t row)) (tree_at t)) (S.rows row l).is)) ∙ e)
    where
      go : (r : Row) → row_at t row ≡ some r → (side c : Bool) → plan (side_of side) (row_tree (length (primitives_before t row)) (tree_at t) (some r)) ≡ (if c then with_it i else without i) → IsLeaf t row i
      go (Solid s) h true true p = record { primitive = s; reads = h; numbered = cc }
      go (Solid s) h true false p = let z : ◌≡◌ {A = ℕ} 0 1 = cc in absurd (omega arith)
      go (Solid s) h false true p = let z : ◌≡◌ {A = ℕ} 0 1 = cc in absurd (omega arith)
      go (Solid s) h false false p = record { primitive = s; reads = h; numbered = cc }
      go (Union a b) h true c p = no_either i c p
      go (Union a b) h false c p = no_both i c p
      go (Inter a b) h true c p = no_both i c p
      go (Inter a b) h false c p = no_either i c p
      go (Diff a b) h true c p = no_both i c p
      go (Diff a b) h false c p = no_either i c p

  module _ {i : ℕ} (f : IsLeaf t row i) where
    below : i < length (primitives t)
    below = omega (arith, f.numbered, number_below t S row l f.reads)

    pub leaf_number : i < 64
    leaf_number = omega (arith, below, few_primitives t S)

    pub leaf_span : (seen : ℕ) {n : ℕ} → n ≡ sharing (primitives t) (box_of f.primitive) → bit_and n seen ≡ span (meetings (primitives t)) seen (with_it i)
    unfolding span
    leaf_span seen e =
        let meet : get_or (meetings (primitives t)) i 0 ≡ sharing (primitives t) (box_of f.primitive) =
        map_at (λ s. sharing (primitives t) (box_of s)) nowhere 0 (primitives t) i below
        ∙ ap (λ (s : Primitive). sharing (primitives t) (box_of s)) (ap (λ (k : ℕ). get_or (primitives t) k nowhere) f.numbered ∙ at_number t row l f.reads) in
        ap (λ (m : ℕ). bit_and m seen) (e ∙ sym meet)
        ∙ sym (cut_one (meetings (primitives t)) i seen (omega (arith, length-map (primitives t) (λ s. sharing (primitives t) (box_of s)), below)))
