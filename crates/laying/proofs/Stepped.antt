-- The row that comes now is laid out by the step that was read for it. Assumes nothing.
use Rattle.std.proofs.Common.{◌≡◌, ℕ, ◌+◌, ◌-◌, ◌^◌, ◌≤◌, ◌<◌, Bool, true, false, List, [], get_or, Option, Some, None, set, refl, sym, ap, subst, ◌∙◌, arith}
use mathlib.Core.Option.{some}
use lib.Bits.{bit_and}
use lib.IntN.{ℤ}
use Rattle.std.specs.Prelude.{if◌then◌else◌}
use Rattle.rules.specs.declared.Primitive.{Primitive}
use Rattle.rules.specs.declared.Row.TheVariants.{Solid}
use Rattle.rules.specs.Products.{box_of}
use Rattle.rules.specs.Table.{row_count, row_at, primitives}
use Rattle.laws.specs.Plans.{Plan, with_it, without, either, both, mask}
use Rattle.laws.specs.Reach.{sharing, meetings}
use Rattle.choice.specs.Steps.{plan_at}
use Rattle.rows.specs.Masks.{span, risk}
use Rattle.rows.specs.declared.RowKind.{RowKind}
use Rattle.rows.specs.declared.RowKind.TheVariants.{With, Without, Either, Both}
use Rattle.rows.specs.declared.Links.{Links}
use Rattle.rows.specs.declared.Part.{Part}
use Rattle.rows.specs.declared.PlanRow.{PlanRow}
use Rattle.rows.specs.Rows.{links_at, next_at, done_at, Inner}
use Rattle.rows.specs.Lines.{rows_of, line, lines, with_pair, part_of, line_in, Stands}
use Rattle.filling.specs.Filling.{MasksOf}
use Rattle.sizing.specs.Sizes.{Given, SizedTo}
use Rattle.laying.specs.Laying.{plan_of, all_rows, all_lines, Laying}
use Rattle.rows.proofs.Changes.{stands_first, part_again}
use Rattle.laying.proofs.Lines.{Pair, pair_of, some_row}
use Rattle.laying.proofs.Laying.{First, first_of_laying, within_all, laid_leaf, laid_pair}
use Rattle.laying.proofs.Leaves.{leaf_row, leaf_number, leaf_span}
use Rattle.sizing.proofs.Sizes.{rows_leaf, rows_pair, few_rows}

module _ {t : List ℤ} {bits : List ℕ} {rows : List PlanRow} {seen x : ℕ} (G : Given t bits) (L : Laying t seen rows x) (l : x < all_rows t) where
  pub few_all : all_rows t ≤ 127
  few_all = few_rows t G.sound (row_count t - 1) (omega (arith, G.sound.some_row)) true

  pub x_few : x < 127
  x_few = omega (arith, few_all)

  f : First t rows x
  f = first_of_laying L l

  next_is : next_at rows x ≡ f.now.next
  next_is = ap (λ (k : Links). k.next) f.entry

  done_is : done_at rows x ≡ f.now.done
  done_is = ap (λ (k : Links). k.done) f.entry

  module _ {part : Part} (read : part ≡ part_of (links_at rows x)) where
    abbrev p : Plan
    p = plan_at t part.row part.within

    same_part : part ≡ f.now.part
    same_part = read ∙ ap part_of f.entry ∙ part_again f.now.part f.now.next f.now.done

    pub row_in : part.row < row_count t
    row_in = omega (arith, ap (λ (q : Part). q.row) same_part, f.row_in)

    same_plan : plan_of t f.now ≡ p
    same_plan = sym (ap (λ (q : Part). plan_at t q.row q.within) same_part)

    whole : {q : Plan} → p ≡ q → Stands (line_in (all_lines t)) x (lines q x f.now.next f.now.done)
    whole e = subst (λ (q : Plan). Stands (line_in (all_lines t)) x (lines q x f.now.next f.now.done)) (same_plan ∙ e) f.whole

    -- ---- a leaf
    module _ (i bit : ℕ) (b : bit ≡ 2 ^ i) where
      abbrev Put : RowKind → ℕ → List PlanRow → Type 0
      Put kind reach now = (j : ℕ) → j < 64 → bit ≡ 2 ^ j → now ≡ set rows x (record { links = line kind j (next_at rows x) (done_at rows x); masks = record { below = bit; span = reach; risk = 0 } })

      put_as : (kind : RowKind) (reach : ℕ) {now : List PlanRow} → i < 64 → Put kind reach now → now ≡ set rows x (record { links = line kind i f.now.next f.now.done; masks = record { below = bit; span = reach; risk = 0 } })
      put_as kind reach few h = h i few b ∙ (λ j. set rows x (record { links = line kind i (next_is j) (done_is j); masks = record { below = bit; span = reach; risk = 0 } }))

      pub laid_with : p ≡ with_it i → {n : ℕ} → ((s : Primitive) → row_at t part.row ≡ some (Solid s) → n ≡ sharing (primitives t) (box_of s)) → {now : List PlanRow} → Put With (bit_and n seen) now → Laying t seen now (x + 1)
      unfolding mask lines risk
      laid_with e {n} shares {now} h =
          let leaf = leaf_row t G.sound part.row row_in part.within true i e in
          let put = put_as With (bit_and n seen) (leaf_number t G.sound part.row row_in leaf) h in
          let ready : MasksOf (meetings (primitives t)) seen (record { below = bit; span = bit_and n seen; risk = 0 }) (with_it i) =
          record { below = b; spans = leaf_span t G.sound part.row row_in leaf seen (shares leaf.primitive leaf.reads); risky = refl } in
          subst (λ (m : List PlanRow). Laying t seen m (x + 1)) (sym put)
          (laid_leaf few_all L f (line With i f.now.next f.now.done) (record { below = bit; span = bit_and n seen; risk = 0 }) (stands_first (line_in (all_lines t)) x (line With i f.now.next f.now.done) [] (whole e)) (sym (rows_leaf true i (same_plan ∙ e))) ready)

      pub laid_without : p ≡ without i → {now : List PlanRow} → Put Without seen now → Laying t seen now (x + 1)
      unfolding mask lines span risk
      laid_without e {now} h =
          let leaf = leaf_row t G.sound part.row row_in part.within false i e in
          let put = put_as Without seen (leaf_number t G.sound part.row row_in leaf) h in
          let ready : MasksOf (meetings (primitives t)) seen (record { below = bit; span = seen; risk = 0 }) (without i) = record { below = b; spans = refl; risky = refl } in
          subst (λ (m : List PlanRow). Laying t seen m (x + 1)) (sym put)
          (laid_leaf few_all L f (line Without i f.now.next f.now.done) (record { below = bit; span = seen; risk = 0 }) (stands_first (line_in (all_lines t)) x (line Without i f.now.next f.now.done) [] (whole e)) (sym (rows_leaf false i (same_plan ∙ e))) ready)

    -- ---- a row with two parts
    module _ {sizes : List ℕ} (Z : SizedTo t sizes (row_count t)) (a b : Part) (la : a.row < part.row) (lb : b.row < part.row) where
      abbrev lhs : Plan
      lhs = plan_at t a.row a.within

      abbrev rhs : Plan
      rhs = plan_at t b.row b.within

      abbrev n : ℕ
      n = get_or sizes b.row 0

      right_rows : n ≡ rows_of rhs
      right_rows = Z.each b.row (omega (arith, row_in)) b.within

      parts_rows : (one : Bool) → p ≡ if◌then◌else◌ one (either lhs rhs) (both lhs rhs) → rows_of (plan_of t f.now) ≡ rows_of lhs + rows_of rhs + 1
      parts_rows one e = ap rows_of same_plan ∙ sym (rows_pair one lhs rhs e refl refl)

      -- the parts are within the rows
      pub pair_fits : (one : Bool) → p ≡ if◌then◌else◌ one (either lhs rhs) (both lhs rhs) → (x + 1 < x + 1 + n) × (x + 1 + n < 127)
      pair_fits one e = (omega (arith, right_rows, some_row rhs), omega (arith, right_rows, some_row lhs, parts_rows one e, within_all few_all L f, few_all))

      laid_parts : (kind : RowKind) → Inner kind → (follows : ℕ) (precedes : Option ℕ) → rows_of (plan_of t f.now) ≡ rows_of lhs + rows_of rhs + 1
          → Pair (line_in (all_lines t)) x kind lhs rhs f.now.next follows f.now.done precedes → {now : List PlanRow} → now ≡ with_pair rows x (line kind (x + 1 + n) (next_at rows x) (done_at rows x)) a b follows precedes → Laying t seen now (x + 1)
      laid_parts kind i follows precedes sum pair e =
          subst (λ (m : List PlanRow). Laying t seen m (x + 1)) (sym (e ∙ (λ j. with_pair rows x (line kind (x + 1 + right_rows j) (next_is j) (done_is j)) a b follows precedes)))
          (laid_pair few_all L f kind i a b follows precedes pair sum (omega (arith, row_in)) (omega (arith, row_in)))

      module _ {one other : Part} (ea : one ≡ a) (eb : other ≡ b) {now : List PlanRow} where
        pub laid_either : p ≡ either lhs rhs → now ≡ with_pair rows x (line Either (x + 1 + n) (next_at rows x) (done_at rows x)) one other (next_at rows x) None → Laying t seen now (x + 1)
        unfolding lines
        laid_either e h =
            laid_parts Either tt f.now.next None (parts_rows true e) (pair_of (line_in (all_lines t)) x Either lhs rhs f.now.next f.now.next f.now.done None (whole e))
            (h ∙ (λ j. with_pair rows x (line Either (x + 1 + n) (next_at rows x) (done_at rows x)) (ea j) (eb j) (next_is j) None))

        pub laid_both : p ≡ both lhs rhs → now ≡ with_pair rows x (line Both (x + 1 + n) (next_at rows x) (done_at rows x)) one other (x + 1 + n) (Some (x + 1)) → Laying t seen now (x + 1)
        unfolding lines
        laid_both e h =
            laid_parts Both tt (x + 1 + rows_of rhs) (Some (x + 1)) (parts_rows false e) (pair_of (line_in (all_lines t)) x Both lhs rhs f.now.next (x + 1 + rows_of rhs) f.now.done (Some (x + 1)) (whole e))
            (h ∙ (λ j. with_pair rows x (line Both (x + 1 + n) (next_at rows x) (done_at rows x)) (ea j) (eb j) (x + 1 + right_rows j) (Some (x + 1))))
