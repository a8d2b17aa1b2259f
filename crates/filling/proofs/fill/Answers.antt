-- The masks of all rows, from the last to the first. Assumes nothing.
use Rattle.std.proofs.Common.{◌≡◌, Bool, false, refl, subst, arith}
use Rattle.std.proofs.lemmas.List.{length-replicate}
use Rattle.filling.specs.Filling.{Fills}
use Rattle.filling.proofs.Filling.{row_fits, filling_more}
use Rattle.filling.proofs.fill.Goals as goal

pub loop-row-init : goal.loop-row-init
loop-row-init c = record {
  in_range = omega arith;
  long = c.told-rows;
  long_holes = length-replicate {A = Bool} 127 false;
  hollow = λ y u v. absurd (omega arith);
  fills = record { links = λ y. refl; masks = λ meets seen h. (h, λ y u v. absurd (omega arith)) };
}

pub fill_row-requires : goal.fill_row-requires
fill_row-requires c = row_fits c.requires c.loop-row.invariant c.loop-row-test.true

pub loop-row-preserved : goal.loop-row-preserved
loop-row-preserved c =
    filling_more c.requires c.loop-row.invariant c.loop-row-test.true c.fill_row.ensures.rows_after c.fill_row.ensures.holes_after c.fill_row.array_long c.fill_row.array_long2

pub returns : goal.returns
returns c =
    let l = c.loop-row in
    let none : l.row ≡ 0 = omega (arith, c.loop-row-test.false) in
    subst (Fills c.args.rows.now l.rows c.args.end) none l.invariant.fills
