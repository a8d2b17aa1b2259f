-- Within the limits: the tree laid out, rewritten, its rows written and the work area cleared. Assumes nothing.
use Prim.Native.Nat.{ℕ, ◌-◌}
use native.Mathlib.Omega.{arith}
use mathlib.Core.List.{List, []}
use mathlib.Core.Path.{◌≡◌, ap, subst, ◌∙◌}
use lib.IntN.{ℤ, pos}
use lib.ListN.{replicate}
use Rattle.rules.specs.Form.{form_of}
use Rattle.rules.specs.RewriteCall.{finished_tree}
use Rattle.rules.specs.Table.{row_count}
use Rattle.rules.specs.Tree.{tree_at, tree_of}
use Rattle.rules.specs.TreeRows.{rows_in}
use Rattle.normal.specs.Held.{Ready}
use Rattle.normal.proofs.Words.{held_lies}
use Rattle.flatten.specs.Forms.{Laid}
use Rattle.flatten.proofs.Laws.{laid_length}
use Rattle.rewrite.specs.Limits.{Limits}
use Rattle.rewrite.proofs.Calls.{clear_all, sound, rows_fit, form_fits, laid_ready, rows_over, rows_many}
use Rattle.rewrite.proofs.write_tree.Goals as goal

-- the tree of the table stands in the work area
ready : {t tree w v : List ℤ} (l : Limits t tree w) {root used : ℕ} → root ≡ row_count t - 1 → Laid t root 0 w v used → Ready v 0 used [] (form_of (tree_of t)) []
ready {t} {w = w} {v = v} l {used = used} e h = laid_ready l (subst (λ (row : ℕ). Laid t row 0 w v used) e h)

pub root-requires : goal.root-requires
root-requires c = sound c.requires

pub lay-used-requires : goal.lay-used-requires
lay-used-requires c =
    let e : rows_in (form_of (tree_at c.args.table.now c.root.result)) ≡ rows_in (form_of (tree_of c.args.table.now)) =
    ap (λ (row : ℕ). rows_in (form_of (tree_at c.args.table.now row))) c.root.ensures in record {
      sound = sound c.requires;
      row_bound = omega (arith, (sound c.requires).some_row, c.root.ensures);
      row_in_bounds = (omega (arith, e, form_fits c.requires, c.requires.work_room), omega (arith, e, form_fits c.requires));
    }

pub normalize-requires : goal.normalize-requires
normalize-requires c = ([], form_of (tree_of c.args.table.now), [], ready c.requires c.root.ensures c.lay-used.ensures)

pub emit-rows-requires : goal.emit-rows-requires
emit-rows-requires c =
    let h = c.normalize.ensures [] (form_of (tree_of c.args.table.now)) [] (ready c.requires c.root.ensures c.lay-used.ensures) in
    (finished_tree c.args.table.now, held_lies h, omega (arith, rows_fit c.requires, c.requires.room), omega (arith, rows_fit c.requires))

pub overflow_mul-result : goal.overflow_mul-result
overflow_mul-result c =
    let h = c.normalize.ensures [] (form_of (tree_of c.args.table.now)) [] (ready c.requires c.root.ensures c.lay-used.ensures) in
    let r = c.emit-rows.ensures (finished_tree c.args.table.now) (held_lies h) in record { fits = omega (arith, r.ends, rows_fit c.requires) }

pub returns : goal.returns
returns c =
    let h = c.normalize.ensures [] (form_of (tree_of c.args.table.now)) [] (ready c.requires c.root.ensures c.lay-used.ensures) in
    let r = c.emit-rows.ensures (finished_tree c.args.table.now) (held_lies h) in record {
      size = rows_many c.requires r.ends;
      tree = rows_over c.requires r.written;
      zeroed = c.clear.ensures ∙ clear_all c.normalize.new.w ∙ ap (λ (n : ℕ). replicate n (pos 0)) (c.normalize.auto.w ∙ laid_length c.lay-used.ensures);
    }
