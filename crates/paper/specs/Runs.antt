-- What a run of the procedure is: which rewrites it makes where, and what it comes to.
use Rattle.std.specs.Prelude.{ℕ, false, ◌≡◌}
use Rattle.std.proofs.Math.Option.{none}
use Rattle.rules.specs.Form.{Form, leaf, ◌∪◌, ◌∩◌, ◌∖◌}
use Rattle.rules.specs.Procedure.{is_union, lowest}

-- the rule that is taken at a node: 6.5, 7 and 8 only where the right part is a primitive
pub data Taken : Form → Form → Type 0 where
  t1 : {X Y Z : Form} → Taken (X ∖ (Y ∪ Z)) ((X ∖ Y) ∖ Z)
  t2 : {X Y Z : Form} → Taken (X ∩ (Y ∪ Z)) ((X ∩ Y) ∪ (X ∩ Z))
  t3 : {X Y Z : Form} → Taken (X ∖ (Y ∩ Z)) ((X ∖ Y) ∪ (X ∖ Z))
  t4 : {X Y Z : Form} → Taken (X ∩ (Y ∩ Z)) ((X ∩ Y) ∩ Z)
  t5 : {X Y Z : Form} → Taken (X ∖ (Y ∖ Z)) ((X ∖ Y) ∪ (X ∩ Z))
  t6 : {X Y Z : Form} → Taken (X ∩ (Y ∖ Z)) ((X ∩ Y) ∖ Z)
  t65 : {X Y : Form} {i : ℕ} → Taken ((X ∖ Y) ∩ leaf i) ((X ∩ leaf i) ∖ Y)
  t7 : {X Y : Form} {i : ℕ} → Taken ((X ∪ Y) ∖ leaf i) ((X ∖ leaf i) ∪ (Y ∖ leaf i))
  t8 : {X Y : Form} {i : ℕ} → Taken ((X ∪ Y) ∩ leaf i) ((X ∩ leaf i) ∪ (Y ∩ leaf i))

-- the operations of a product
pub data Cutting : Type 0 where
  meet less : Cutting

abbrev pub by : Cutting → Form → Form → Form
by meet X Y = X ∩ Y
by less X Y = X ∖ Y

pub data Runs : Form → Form → Type 0 where
  bare : {i : ℕ} → Runs (leaf i) (leaf i)
  step : {T U N : Form} → Taken T U → Runs U N → Runs T N
  both : {X Y M N : Form} → Runs X M → Runs Y N → Runs (X ∪ Y) (M ∪ N)
  -- no rule fits, and the left part comes to a union: all over again
  again : (o : Cutting) (X A B : Form) {N : Form} (i : ℕ) → lowest (by o X (leaf i)) ≡ none → Runs X (A ∪ B) → Runs (by o (A ∪ B) (leaf i)) N → Runs (by o X (leaf i)) N
  -- no rule fits, and the left part comes to no union: the end
  done : (o : Cutting) (X M : Form) (i : ℕ) → lowest (by o X (leaf i)) ≡ none → Runs X M → is_union M ≡ false → Runs (by o X (leaf i)) (by o M (leaf i))
