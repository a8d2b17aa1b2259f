use Prim.Native.Nat.{ℕ}
use mathlib.Core.List.{List}
use mathlib.Core.Path.{◌≡◌}
use lib.IntN.{ℤ}
use lib.Seq.{sets}
use Rattle.rules.specs.ListInside.{inside_list}
use Rattle.rules.specs.ListWords.{list_window}
use Rattle.rules.specs.Table.{primitives}
use Rattle.laws.specs.Drawing.{rows_from}
use Rattle.waterfall.proofs.put_rows.Given as goal

-- the words of the first rows
abbrev pub words : List ℤ → List ℕ → ℤ → ℤ → ℕ → ℕ → List ℤ
words table list = rows_from (inside_list (primitives table) list) (list_window list).z

abbrev pub invariant-loop-j : goal.invariant-loop-j
invariant-loop-j l =
    l.picture ≡ sets l.initial.picture 0 (words l.table l.list l.xlo l.yhi l.width l.j)
