-- A tree that stands in the work area: before it the words a, after it c, in use, and then what is not. And what the functions make of it.
use Rattle.std.specs.Prelude.{ℕ, ◌+◌, ◌*◌, ◌≤◌, ◌<◌, Bool, true, false, List, ◌++◌, ◌≡◌, ℤ, pos, length, get_or, set, Option, Some, None}
use Rattle.std.proofs.Math.Option.{none}
use Rattle.rules.specs.Form.{Form, leaf, ◌∪◌, ◌∩◌, ◌∖◌}
use Rattle.rules.specs.Procedure.{is_union, lowest, normalize}
use Rattle.rules.specs.TreeRows.{rows_in}
use Rattle.paper.specs.Measures.{weight, fitting, high}
use Rattle.paper.specs.Runs.{Taken}
use Rattle.moves.specs.declared.Operation.{Operation}
use Rattle.moves.specs.Moves.{most_words, IsWord, operation_number}
use Rattle.normal.specs.declared.Top.{Top}
use Rattle.normal.specs.Prefix.{top, has_top, flat, head, left_words, left_of, right_of, Small, Lies}

abbrev pub TreeAt : List ℤ → ℕ → Type 0
TreeAt w at = (T : Form) × Lies w at T

abbrev pub HeadAt : List ℤ → ℕ → Top → Type 0
HeadAt w at r = (T : Form) → Lies w at T → r ≡ top T

abbrev pub LeftAt : List ℤ → ℕ → ℕ → Type 0
LeftAt w at r = (T : Form) → Lies w at T → r ≡ left_words T

abbrev pub StandsAt : List ℤ → ℕ → Operation → Bool → Type 0
StandsAt w at operation r = (T : Form) → Lies w at T → r ≡ has_top operation T

pub record Held (w : List ℤ) (at used : ℕ) (a : List ℤ) (T : Form) (c : List ℤ) : Type 0 where
  pub rest : List ℤ
  pub words : w ≡ a ++ (flat T ++ (c ++ rest))
  pub before : length a ≡ at
  pub upto : at + rows_in T + length c ≡ used
  pub small : Small T
  pub few : rows_in T ≤ most_words

-- and there is room for what it comes to
pub record Ready (w : List ℤ) (at used : ℕ) (a : List ℤ) (T : Form) (c : List ℤ) : Type 0 where
  pub held : Held w at used a T c
  pub room : at + rows_in (normalize T) + length c ≤ length w
  pub most : rows_in (normalize T) ≤ most_words

abbrev pub Node : List ℤ → ℕ → ℕ → Type 0
Node w at used = (a : List ℤ) × (T : Form) × (c : List ℤ) × Ready w at used a T c

-- an intersection or a difference, and where its right part stands
pub record Placed (w : List ℤ) (at right used : ℕ) (a : List ℤ) (T : Form) (c : List ℤ) : Type 0 where
  pub ready : Ready w at used a T c
  pub node : 20 ≤ head T
  pub place : at + 1 + rows_in (left_of T) ≡ right

abbrev pub Rewritten : List ℤ → ℕ → ℕ → List ℤ → Form → List ℤ → Type 0
Rewritten v at n a T c = (U : Form) × Taken T U × Held v at n a U c

-- .. both parts of which are known to be k and q
abbrev pub OnRight : List ℤ → ℕ → ℕ → Operation → Operation → ℕ → Type 0
OnRight w at right k q used =
    (a : List ℤ) × (T : Form) × (c : List ℤ) × Placed w at right used a T c × (head T ≡ operation_number k) × (head (right_of T) ≡ operation_number q)

abbrev pub ByRight : List ℤ → List ℤ → ℕ → ℕ → Operation → Operation → ℕ → ℕ → Type 0
ByRight w v at right k q used n =
    (a : List ℤ) (T : Form) (c : List ℤ) → Placed w at right used a T c → head T ≡ operation_number k → head (right_of T) ≡ operation_number q → Rewritten v at n a T c

-- a turn: a rewrite, and up to where words are in use then, or no rule fits
abbrev pub Turned : List ℤ → ℕ → ℕ → List ℤ → Form → List ℤ → Option ℕ → Type 0
Turned v at used a T c (Some n) = Rewritten v at n a T c
Turned v at used a T c None = (lowest T ≡ none) × Held v at used a T c

abbrev pub OnLeft : List ℤ → ℕ → ℕ → Operation → ℕ → ℕ → Type 0
OnLeft w at right k z used =
    (a : List ℤ) × (T : Form) × (c : List ℤ) × Placed w at right used a T c × (head T ≡ operation_number k) × (head (right_of T) ≡ z) × (z < 16)

abbrev pub ByLeft : List ℤ → List ℤ → ℕ → ℕ → Operation → ℕ → ℕ → Option ℕ → Type 0
ByLeft w v at right k z used r =
    (a : List ℤ) (T : Form) (c : List ℤ) → Placed w at right used a T c → head T ≡ operation_number k → head (right_of T) ≡ z → Turned v at used a T c r

abbrev pub Rewrote : List ℤ → List ℤ → ℕ → ℕ → Option ℕ → Type 0
Rewrote w v at used r = (a : List ℤ) (T : Form) (c : List ℤ) → Ready w at used a T c → Turned v at used a T c r

-- what stays and what falls from a tree to one that it is rewritten to
pub record Leads (T U : Form) : Type 0 where
  pub same : normalize U ≡ normalize T
  pub deep : high U true ≡ high T true
  pub down : fitting (lowest T) + weight U true ≤ fitting (lowest U) + weight T true
  pub node : 16 ≤ head T → 16 ≤ head U

pub record Stopped (v : List ℤ) (at n : ℕ) (a : List ℤ) (T : Form) (c : List ℤ) : Type 0 where
  pub tree : Form
  pub leads : Leads T tree
  pub held : Held v at n a tree c
  pub ends : lowest tree ≡ none

abbrev pub Reduced : List ℤ → List ℤ → ℕ → ℕ → ℕ → Type 0
Reduced w v at used n = (a : List ℤ) (T : Form) (c : List ℤ) → Ready w at used a T c → Stopped v at n a T c

-- the word of a node whose left part has so many words more
abbrev pub Widens : List ℤ → ℕ → ℕ → Type 0
Widens w at more = (at < length w) × ((x : ℕ) × (get_or w at (pos 0) ≡ pos x) × IsWord (x + 32 * more))

abbrev pub Widened : List ℤ → List ℤ → ℕ → ℕ → Type 0
Widened w v at more = (x : ℕ) → get_or w at (pos 0) ≡ pos x → IsWord x → v ≡ set w at (pos (x + 32 * more))

-- the left part of an intersection or a difference is a union
abbrev pub goes_on : Form → Bool
goes_on (leaf i) = false
goes_on (X ∪ Y) = false
goes_on (X ∩ Y) = is_union X
goes_on (X ∖ Y) = is_union X

abbrev pub AgainAt : List ℤ → ℕ → Bool → Type 0
AgainAt w at r = (T : Form) → Lies w at T → 16 ≤ head T → r ≡ goes_on T

abbrev pub NodeAt : List ℤ → ℕ → Type 0
NodeAt w at = (T : Form) × Lies w at T × (16 ≤ head T)

-- the whole
abbrev pub Normalized : List ℤ → List ℤ → ℕ → ℕ → ℕ → Type 0
Normalized w v at used n = (a : List ℤ) (T : Form) (c : List ℤ) → Ready w at used a T c → Held v at n a (normalize T) c
