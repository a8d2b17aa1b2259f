-- Sets of primitives that are gathered row by row come to the sets of all of them. Assumes nothing.
use Prim.Native.Nat.{ℕ, suc, ◌+◌, ◌^◌}
use native.Mathlib.Omega.{arith}
use mathlib.Core.Bool.{Bool}
use mathlib.Core.List.{List, [], ◌∷◌, ◌++◌, append-nil}
use mathlib.Core.Option.{some}
use mathlib.Core.Path.{◌≡◌, sym, ap, subst, ◌∙◌}
use lib.Bits.{bit_or}
use lib.IntN.{ℤ}
use lib.ListN.{length, length-append}
use lib.Seq.{take_all, take-append_seam, get_or-append_seam}
use Rattle.ground.specs.Bits.{places_of}
use Rattle.std.specs.Prelude.{if◌then◌else◌}
use Rattle.ground.proofs.Counting.{flat_map_next}
use Rattle.rules.specs.declared.Primitive.{Primitive}
use Rattle.rules.specs.declared.Row.TheVariants.{Solid}
use Rattle.rules.specs.Table.{row_at, solid_of, primitives_before}
use Rattle.laws.proofs.Reach.{places_next}
use Rattle.reach.specs.declared.Gathered.{Gathered}
use Rattle.reach.specs.Gathering.{with_one, Gathers}

-- ---- one element more

last_place : {A : Type 0} (test : A → Bool) (xs : List A) (x : A)
    → places_of test (xs ++ (x ∷ [])) ≡ bit_or (places_of test xs) (if test x then 2 ^ length xs else 0)
last_place {A} test xs x =
    let all : List A = xs ++ (x ∷ []) in
    let longer : length all ≡ length xs + 1 = length-append xs (x ∷ []) in
    ap (places_of test) (sym (take_all (suc (length xs)) all (omega arith)))
    ∙ places_next test x all (length xs) (omega arith)
    ∙ (λ i. bit_or (places_of test (take-append_seam xs (x ∷ []) i)) (if test (get_or-append_seam xs x [] x i) then 2 ^ length xs else 0))

module _ (solids : List Primitive) (s : Primitive) where
  pub gathers_more : (test : Primitive → Bool) (g : Gathered) → Gathers solids test g → Gathers (solids ++ (s ∷ [])) test (with_one g (test s))
  gathers_more test g G = record {
    set = (λ i. bit_or (G.set i) (if test s then 2 ^ G.count i else 0)) ∙ sym (last_place test solids s);
    count = ap (λ (n : ℕ). n + 1) G.count ∙ sym (length-append solids (s ∷ []));
  }

-- ---- one row more

module _ (t : List ℤ) (row : ℕ) where
  pub next_solids : {solids : List Primitive} → solid_of (row_at t row) ≡ solids → primitives_before t row ++ solids ≡ primitives_before t (row + 1)
  next_solids e = ap (λ (ps : List Primitive). primitives_before t row ++ ps) (sym e) ∙ sym (flat_map_next (λ k. solid_of (row_at t k)) row)

  module _ (test : Primitive → Bool) (found : Gathered) (G : Gathers (primitives_before t row) test found) where
    -- a primitive is added by the test of it
    pub leaf_gathers : {s : Primitive} → row_at t row ≡ some (Solid s) → Gathers (primitives_before t (row + 1)) test (with_one found (test s))
    leaf_gathers {s} e =
        subst (λ (ps : List Primitive). Gathers ps test (with_one found (test s))) (next_solids (ap solid_of e))
        (gathers_more (primitives_before t row) s test found G)

    -- where there is none, all stays as it is
    pub none_gathers : solid_of (row_at t row) ≡ [] → Gathers (primitives_before t (row + 1)) test found
    none_gathers e =
        subst (λ (ps : List Primitive). Gathers ps test found) (sym (append-nil (primitives_before t row)) ∙ next_solids e) G
