-- A plan as rows. A row has four links: its kind, its left part (of a leaf: the primitive's number), the row that is walked after it, and the right
-- part of a `both` that is done just before it, if there is one. The right part is the row after it.
-- And it has three masks: the primitives below it, its span, its risk.
use Rattle.std.specs.Prelude.{ℕ, zero, suc, ◌+◌, ◌-◌, ◌≤◌, ◌<◌, List, ◌≡◌, get_or, set, Some, None}
use Rattle.std.proofs.Common.{Option}
use Rattle.laws.specs.Plans.{Plan, with_it, without, either, both, mask}
use Rattle.rows.specs.declared.RowKind.{RowKind}
use Rattle.rows.specs.declared.RowKind.TheVariants.{With, Without, Either, Both}
use Rattle.rows.specs.declared.Links.{Links}
use Rattle.rows.specs.declared.Masks.{Masks}
use Rattle.rows.specs.declared.PlanRow.{PlanRow}
use Rattle.rows.specs.Masks.{risk}

abbrev pub blank_links : Links
blank_links = record { kind = With; left = 0; next = 0; done = None }

abbrev pub blank_row : PlanRow
blank_row = record { links = blank_links; masks = record { below = 0; span = 0; risk = 0 } }

module _ (rows : List PlanRow) (x : ℕ) where
  abbrev pub links_at : Links
  links_at = (get_or rows x blank_row).links

  abbrev pub masks_at : Masks
  masks_at = (get_or rows x blank_row).masks

  abbrev pub kind_at : RowKind
  kind_at = links_at.kind

  abbrev pub left_at : ℕ
  left_at = links_at.left

  abbrev pub next_at : ℕ
  next_at = links_at.next

  abbrev pub done_at : Option ℕ
  done_at = links_at.done

  abbrev pub below_at : ℕ
  below_at = masks_at.below

  abbrev pub span_at : ℕ
  span_at = masks_at.span

  abbrev pub risk_at : ℕ
  risk_at = masks_at.risk

  -- a row that is given other links, or other masks
  abbrev pub with_links : Links → List PlanRow
  with_links links = set rows x (record { links = links; masks = masks_at })

  abbrev pub with_masks : Masks → List PlanRow
  with_masks masks = set rows x (record { links = links_at; masks = masks })

abbrev pub shape : RowKind → ℕ → Plan → Plan → Plan
shape With number a b = with_it number
shape Without number a b = without number
shape Either number a b = either a b
shape Both number a b = both a b

-- the plan of a row by the rows' links, down to a depth; no plan has more than 127 rows
unfoldable pub plan_to : ℕ → (ℕ → Links) → ℕ → Plan
plan_to zero links x = with_it 0
plan_to (suc depth) links x = shape (links x).kind (links x).left (plan_to depth links (links x).left) (plan_to depth links (x + 1))

unfoldable pub plan_in : List PlanRow → ℕ → Plan
plan_in rows x = plan_to (127 - x) (links_at rows) x

-- a row with two parts
abbrev pub Inner : RowKind → Type 0
Inner With = ⊥
Inner Without = ⊥
Inner Either = Unit {0}
Inner Both = Unit {0}

pub record Later (end x y : ℕ) : Type 0 where
  pub up : x + 1 < y
  pub fits : y < end

-- links lead to later rows
pub record SoundLink (links : Links) (end x : ℕ) : Type 0 where
  pub left : Inner links.kind → Later end x links.left
  pub next_up : x < links.next
  pub next_in : links.next ≤ end
  pub done_in : (done : ℕ) → links.done ≡ Some done → done < end

-- masks are those of the row's plan
pub record SoundMask (rows : List PlanRow) (x : ℕ) : Type 0 where
  pub below : below_at rows x ≡ mask (plan_in rows x)
  pub risky : risk_at rows x ≡ risk (plan_in rows x)

pub record SoundLinks (rows : List PlanRow) (end : ℕ) : Type 0 where
  pub some : 0 < end
  pub few : end ≤ 127
  pub link : (x : ℕ) → x < end → SoundLink (links_at rows x) end x

pub record SoundRows (rows : List PlanRow) (end : ℕ) : Type 0 where
  pub linked : SoundLinks rows end
  pub masked : (x : ℕ) → x < end → SoundMask rows x

-- one of the rows
pub record InRows (rows : List PlanRow) (x : ℕ) : Type 0 where
  pub end : ℕ
  pub sound : SoundRows rows end
  pub here : x < end
