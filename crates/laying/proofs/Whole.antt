-- The rows of a whole table: how they begin, and what they are once they are all laid out. Assumes nothing.
use Prim.Native.Nat.{ℕ, ◌-◌, ◌≤◌, ◌<◌}
use native.Mathlib.Nat.{zero-add}
use native.Mathlib.Omega.{arith}
use mathlib.Core.Bool.{true}
use mathlib.Core.List.{List, [], ◌∷◌}
use mathlib.Core.Path.{◌≡◌, refl, sym, ap, subst, ◌∙◌}
use lib.Bits.{bit_and}
use lib.Dec.{eqb}
use lib.IntN.{ℤ}
use lib.ListN.{length, get_or, length-set}
use Rattle.std.proofs.Common.{None}
use Rattle.rules.specs.Table.{row_count, primitives}
use Rattle.rules.specs.Choices.{in_of}
use Rattle.laws.specs.Survivors.{survivors}
use Rattle.laws.specs.Plans.{Plan, ways, Apart}
use Rattle.laws.specs.Reach.{cut_down, meetings}
use Rattle.laws.specs.Sound.{Sound}
use Rattle.choice.specs.Steps.{plan_at, root_plan}
use Rattle.rows.specs.declared.Part.{Part}
use Rattle.rows.specs.declared.PlanRow.{PlanRow}
use Rattle.rows.specs.Rows.{links_at, with_links, SoundLinks}
use Rattle.rows.specs.Lines.{coming_links, line_in, Stands}
use Rattle.sizing.specs.Sizes.{SizedTo}
use Rattle.filling.specs.Filling.{LeavesTo, FullFrom, Fills}
use Rattle.laying.specs.Laying.{all_rows, all_lines, Comes, Laying, Laid}
use Rattle.laws.proofs.Apart.{table_apart}
use Rattle.laying.proofs.Linked.{rows_survivors}
use Rattle.laying.proofs.Lines.{length_lines, lines_plan, lines_sound, lines_tied}
use Rattle.sizing.proofs.Sizes.{few_rows}
use Rattle.rows.proofs.Changes.{row_here}

module _ (t : List ℤ) (S : Sound t) where
  last_row : row_count t - 1 < row_count t
  last_row = omega (arith, S.some_row)

  root_apart : Apart (root_plan t)
  unfolding plan_at
  root_apart = table_apart t S (row_count t - 1) last_row in_of

  pub few : all_rows t ≤ 127
  few = few_rows t S (row_count t - 1) last_row true

  -- the root's rows are all
  pub root_rows : {sizes : List ℕ} {root n : ℕ} → SizedTo t sizes (row_count t) → root ≡ row_count t - 1 → n ≡ get_or sizes root 0 → n ≡ all_rows t
  root_rows {sizes} sized e h = h ∙ ap (λ (row : ℕ). get_or sizes row 0) e ∙ sized.each (row_count t - 1) last_row true

  -- the root alone is to come
  pub laying_none : (seen : ℕ) (rows : List PlanRow) → length rows ≡ 127 → (root : Part) → root.row ≡ row_count t - 1 → root.within ≡ true → {n : ℕ} → n ≡ all_rows t → {after : List PlanRow} → after ≡ with_links rows 0 (coming_links root n None) → Laying t seen after 0
  unfolding Comes
  laying_none seen rows long root er ew {n} en {after} e =
      let last : Part = record { row = row_count t - 1; within = true } in
      subst (λ (m : List PlanRow). Laying t seen m 0) (sym (e ∙ (λ i. with_links rows 0 (coming_links (record { row = er i; within = ew i }) (en i) None)))) (record {
        in_range = omega arith;
        long = length-set rows 0 _ ∙ long;
        same = λ y k. absurd (omega arith);
        leaves = λ y k. absurd (omega arith);
        coming = record { part = last; next = all_rows t; done = None } ∷ [];
        comes = (last_row, ((row_here rows 0 (omega (arith, long)) _).0, ((λ j k. ap (line_in (all_lines t)) (zero-add j)), zero-add (all_rows t))));
      })

  -- with masks that are filled in, the walk gives the list
  module _ {seen : ℕ} {rows : List PlanRow} {end : ℕ} (n : end ≡ all_rows t) (L : Laying t seen rows end) where
    stands : (after : List PlanRow) → ((y : ℕ) → links_at after y ≡ links_at rows y) → Stands (links_at after) 0 (all_lines t)
    stands after same j k =
        ap (links_at after) (zero-add j) ∙ same j ∙ L.same j (omega (arith, n, length_lines (root_plan t) 0 (all_rows t) None))

    pub links_sound : SoundLinks rows end
    links_sound = subst (SoundLinks rows) (sym n) (lines_sound rows (root_plan t) few (stands rows (λ y. refl)))

    pub laid : {after : List PlanRow} → Fills rows after end 0 → Laid t seen after end
    laid {after} fills =
        let h = stands after fills.links in
        let sound = lines_sound after (root_plan t) few h in
        let full = (subst (λ (e : ℕ). LeavesTo (meetings (primitives t)) seen after e × FullFrom (meetings (primitives t)) seen after e 0) n (fills.masks (meetings (primitives t)) seen L.leaves)).1 in
        let same = lines_plan after (root_plan t) few h in
        subst (Laid t seen after) (sym n) (record {
          sound = record { linked = sound; masked = λ x l. let m = full x (omega arith) l in record { below = m.below; risky = m.risky } };
          lists =
              rows_survivors (meetings (primitives t)) seen sound (lines_tied after (root_plan t) few h) full (subst Apart (sym same) root_apart)
              ∙ ap (λ (q : Plan). survivors (λ chosen. eqb (bit_and chosen (cut_down (meetings (primitives t)) chosen seen)) chosen) (λ chosen. cut_down (meetings (primitives t)) chosen seen) (ways q)) same;
        })
