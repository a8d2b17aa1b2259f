use Prim.Native.Nat.{ℕ}
use mathlib.Core.List.{List}
use mathlib.Core.Path.{◌≡◌}
use lib.IntN.{ℤ}
use lib.Seq.{sets}
use Rattle.rules.specs.ListInside.{inside_list}
use Rattle.rules.specs.ListWords.{list_window}
use Rattle.rules.specs.Table.{primitives}
use Rattle.laws.specs.Drawing.{words_from}
use Rattle.waterfall.proofs.put_row.Given as goal

-- the words of the first columns
abbrev pub words : List ℤ → List ℕ → ℤ → ℤ → ℕ → List ℤ
words table list = words_from (inside_list (primitives table) list) (list_window list).z

abbrev pub invariant-loop-i : goal.invariant-loop-i
invariant-loop-i l =
    l.picture ≡ sets l.initial.picture l.at (words l.table l.list l.xlo l.y l.i)
