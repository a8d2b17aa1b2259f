-- Rows while they are laid out: those before x are done; from x on, a row that is to come has its side and its row of the table in place of
-- its kind and its left part.
use Rattle.std.specs.Prelude.{ℕ, ◌+◌, ◌≤◌, ◌<◌, List, [], ◌∷◌, ◌≡◌, eqb, ℤ, length, None}
use Rattle.std.proofs.Common.{Option}
use Rattle.std.specs.Int.Bits.{bit_and}
use Rattle.rules.specs.Table.{row_count, primitives}
use Rattle.laws.specs.Plans.{Plan, ways}
use Rattle.laws.specs.Survivors.{survivors}
use Rattle.laws.specs.Reach.{cut_down, meetings}
use Rattle.choice.specs.Steps.{plan_at, root_plan}
use Rattle.rows.specs.declared.Links.{Links}
use Rattle.rows.specs.declared.Part.{Part}
use Rattle.rows.specs.declared.PlanRow.{PlanRow}
use Rattle.rows.specs.Rows.{links_at, SoundRows}
use Rattle.rows.specs.Lines.{rows_of, lines, coming_links, line_in, Stands}
use Rattle.walk.specs.Tracks.{walk_at, start_of}
use Rattle.filling.specs.Filling.{LeavesTo}

-- a row that is to come
pub record Coming : Type 0 where
  pub part : Part
  pub next : ℕ
  pub done : Option ℕ

module _ (t : List ℤ) where
  abbrev pub plan_of : Coming → Plan
  plan_of c = plan_at t c.part.row c.part.within

  abbrev pub lines_of : Coming → ℕ → List Links
  lines_of c x = lines (plan_of c) x c.next c.done

  -- what is to come from row x on, one after the other up to the end, is there and gives the links of the whole
  module _ (whole : List Links) (rows : List PlanRow) (end : ℕ) where
    unfoldable pub Comes : ℕ → List Coming → Type 0
    Comes x [] = x ≡ end
    Comes x (c ∷ cs) = (c.part.row < row_count t)
        × ((links_at rows x ≡ coming_links c.part c.next c.done)
        × (Stands (line_in whole) x (lines_of c x) × Comes (x + rows_of (plan_of c)) cs))

-- all rows of a table's plan
abbrev pub all_rows : List ℤ → ℕ
all_rows t = rows_of (root_plan t)

abbrev pub all_lines : List ℤ → List Links
all_lines t = lines (root_plan t) 0 (all_rows t) None

module _ (t : List ℤ) (seen : ℕ) where
  pub record Laying (rows : List PlanRow) (x : ℕ) : Type 0 where
    pub in_range : x ≤ all_rows t
    pub long : length rows ≡ 127
    pub same : (y : ℕ) → y < x → links_at rows y ≡ line_in (all_lines t) y
    pub leaves : LeavesTo (meetings (primitives t)) seen rows x
    pub coming : List Coming
    pub comes : Comes t (all_lines t) rows (all_rows t) x coming

  -- rows that are laid out: from the first of them the walk gives the list of all ways
  pub record Laid (rows : List PlanRow) (end : ℕ) : Type 0 where
    pub sound : SoundRows rows end
    pub lists : walk_at rows end (start_of seen)
        ≡ survivors (λ chosen. eqb (bit_and chosen (cut_down (meetings (primitives t)) chosen seen)) chosen) (λ chosen. cut_down (meetings (primitives t)) chosen seen) (ways (root_plan t))
