-- Section 19 of docs/RULES.md: the procedure of document 000, whose circle is the union. It rewrites by the lowest rule that fits, and it ends by its own
-- test, also where 6.5 would still fit.
use Rattle.std.specs.Prelude.{ℕ, zero, suc, ◌^◌, Bool, true, false, not, ◌&&◌, if◌then◌else◌}
use Rattle.std.proofs.Math.Option.{Option, none, some}
use Rattle.rules.specs.Form.{Form, leaf, ◌∪◌, ◌∩◌, ◌∖◌, leaves}

unfoldable pub is_primitive : Form → Bool
is_primitive (leaf i) = true
is_primitive (X ∪ Y) = false
is_primitive (X ∩ Y) = false
is_primitive (X ∖ Y) = false

unfoldable pub is_union : Form → Bool
is_union (leaf i) = false
is_union (X ∪ Y) = true
is_union (X ∩ Y) = false
is_union (X ∖ Y) = false

-- the right side of the lowest rule that fits, if one does: 1 to 6 by the right part, and where that is a primitive 6.5, 7 and 8 by the left one
unfoldable pub lowest : Form → Option Form
lowest (leaf i) = none
lowest (X ∪ Y) = none
lowest (X ∖ (Y ∪ Z)) = some ((X ∖ Y) ∖ Z)
lowest (X ∩ (Y ∪ Z)) = some ((X ∩ Y) ∪ (X ∩ Z))
lowest (X ∖ (Y ∩ Z)) = some ((X ∖ Y) ∪ (X ∖ Z))
lowest (X ∩ (Y ∩ Z)) = some ((X ∩ Y) ∩ Z)
lowest (X ∖ (Y ∖ Z)) = some ((X ∖ Y) ∪ (X ∩ Z))
lowest (X ∩ (Y ∖ Z)) = some ((X ∩ Y) ∖ Z)
lowest ((X ∖ Y) ∩ leaf i) = some ((X ∩ leaf i) ∖ Y)
lowest ((X ∪ Y) ∖ leaf i) = some ((X ∖ leaf i) ∪ (Y ∖ leaf i))
lowest ((X ∪ Y) ∩ leaf i) = some ((X ∩ leaf i) ∪ (Y ∩ leaf i))
lowest (leaf j ∩ leaf i) = none
lowest ((X ∩ Y) ∩ leaf i) = none
lowest (leaf j ∖ leaf i) = none
lowest ((X ∩ Y) ∖ leaf i) = none
lowest ((X ∖ Y) ∖ leaf i) = none

-- until: T is a union, or its right part is a primitive and its left part is no union
unfoldable pub ended : Form → Bool
ended (leaf i) = true
ended (X ∪ Y) = true
ended (X ∩ Y) = is_primitive Y && not (is_union X)
ended (X ∖ Y) = is_primitive Y && not (is_union X)

-- `normal` is what a call of the procedure makes of a tree
module _ (normal : Form → Form) where
  -- normalize the left part
  unfoldable pub left_done : Form → Form
  left_done (leaf i) = leaf i
  left_done (X ∪ Y) = normal X ∪ Y
  left_done (X ∩ Y) = normal X ∩ Y
  left_done (X ∖ Y) = normal X ∖ Y

  -- normalize the right part
  unfoldable pub right_done : Form → Form
  right_done (leaf i) = leaf i
  right_done (X ∪ Y) = X ∪ normal Y
  right_done (X ∩ Y) = X ∩ normal Y
  right_done (X ∖ Y) = X ∖ normal Y

  -- the right part where the procedure has ended, and else all over again
  unfoldable pub until : Bool → Form → Form
  until true T = right_done T
  until false T = normal T

  -- while a rule fits, go on with its right side; then the left part, and the test
  unfoldable pub turn : Option Form → Form → Form
  turn (some U) T = normal U
  turn none T = until (ended (left_done T)) (left_done T)

-- one call, rewrite or repetition within the other, so many at the most; a primitive stays as it is
unfoldable pub within : ℕ → Form → Form
within zero T = T
within (suc depth) T = if is_primitive T then T else turn (within depth) (lowest T) T

-- so many suffice: what this comes to is the end of a run (`normalize_runs`, crates/paper/proofs/Ending)
unfoldable pub normalize : Form → Form
normalize T = within (16 ^ leaves T) T
