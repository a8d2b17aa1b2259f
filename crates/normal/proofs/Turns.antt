-- What stays and what falls from rewrite to rewrite at a node. Assumes nothing.
use Prim.Native.Nat.{ℕ, ◌+◌, ◌≤◌, ◌<◌}
use mathlib.Core.Bool.{true}
use mathlib.Core.List.{List}
use mathlib.Core.Path.{◌≡◌, refl, sym, ap, ◌∙◌}
use native.Mathlib.Nat.{le_refl}
use native.Mathlib.Omega.{arith}
use lib.IntN.{ℤ}
use lib.ListN.{length}
use Rattle.rules.specs.Form.{Form}
use Rattle.rules.specs.Procedure.{lowest}
use Rattle.rules.specs.TreeRows.{rows_in}
use Rattle.paper.specs.Measures.{weight, fitting}
use Rattle.paper.specs.Runs.{Taken, t1, t2, t3, t4, t5, t6, t65, t7, t8}
use Rattle.paper.proofs.Ending.{normalize_step}
use Rattle.paper.proofs.Taking.{taken_lowest, taken_high, taken_falls}
use Rattle.normal.specs.Prefix.{head, Lies}
use Rattle.normal.specs.Held.{Held, Ready, Rewritten, Leads}
use Rattle.normal.proofs.Words.{held_lies}
use Rattle.normal.proofs.Reading.{tree_at, lies_tree}

pub leads_here : (T : Form) → Leads T T
leads_here T = record { same = refl; deep = refl; down = le_refl (fitting (lowest T) + weight T true); node = λ h. h }

taken_node : {T U : Form} → Taken T U → 16 ≤ head U
unfolding head
taken_node t1 = omega arith
taken_node t2 = omega arith
taken_node t3 = omega arith
taken_node t4 = omega arith
taken_node t5 = omega arith
taken_node t6 = omega arith
taken_node t65 = omega arith
taken_node t7 = omega arith
taken_node t8 = omega arith

leads_step : {T U S : Form} → Leads T U → Taken U S → Leads T S
unfolding fitting
leads_step {T} {U} {S} l k = record {
  same = sym (normalize_step k) ∙ l.same;
  deep = sym (taken_high k) ∙ l.deep;
  down = let e : fitting (lowest U) ≡ 1 = ap fitting (taken_lowest k) in omega (arith, l.down, taken_falls k);
  node = λ h. taken_node k;
}

pub ready_on : {w v : List ℤ} {at used n : ℕ} {a : List ℤ} {T U : Form} {c : List ℤ} → Ready w at used a T c → Leads T U → Held v at n a U c → length v ≡ length w
    → Ready v at n a U c
ready_on {w} {v} {at} {used} {n} {a} {T} {U} {c} r l h e =
    record { held = h; room = omega (arith, r.room, ap rows_in l.same, e); most = omega (arith, r.most, ap rows_in l.same) }

-- as the loop has it
pub record Going (v : List ℤ) (at n : ℕ) (a : List ℤ) (T : Form) (c : List ℤ) : Type 0 where
  pub tree : Form
  pub leads : Leads T tree
  pub held : Held v at n a tree c

pub turn_on : {T U : Form} (v : List ℤ) (at n : ℕ) (a c : List ℤ) → Leads T U → Rewritten v at n a U c → Going v at n a T c
turn_on v at n a c l (S, k, h) = record { tree = S; leads = leads_step l k; held = h }

pub turn_falls : {w : List ℤ} {at : ℕ} {U : Form} (v : List ℤ) (n : ℕ) (a c : List ℤ) → Lies w at U → Rewritten v at n a U c
    → weight (tree_at v at) true < weight (tree_at w at) true
turn_falls {w} {at} {U} v n a c l (S, k, h) =
    let e : weight (tree_at w at) true ≡ weight U true = ap (λ (T : Form). weight T true) (lies_tree l) in
    let f : weight (tree_at v at) true ≡ weight S true = ap (λ (T : Form). weight T true) (lies_tree (held_lies h)) in
    omega (arith, taken_falls k)
