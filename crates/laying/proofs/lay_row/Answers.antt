-- The row that comes now is laid out, by the step that is read for it. Assumes nothing.
use Rattle.std.proofs.Common.{ap, true, false, arith}
use Rattle.rows.specs.declared.Part.{Part}
use Rattle.laying.proofs.Stepped.{x_few, row_in, pair_fits, laid_with, laid_without, laid_either, laid_both}
use Rattle.laying.proofs.lay_row.Goals as goal

pub bounds-rows-at : goal.bounds-rows-at
bounds-rows-at c = x_few c.requires.given.0 c.requires.laying.0 c.requires.laying.1

pub read_step-requires-clause-row_bound : goal.read_step-requires-clause-row_bound
read_step-requires-clause-row_bound c = row_in c.requires.given.0 c.requires.laying.0 c.requires.laying.1 c.part-part.ensures

pub sharing_row-requires-clause-row_bound : goal.sharing_row-requires-clause-row_bound
sharing_row-requires-clause-row_bound c = row_in c.requires.given.0 c.requires.laying.0 c.requires.laying.1 c.part-part.ensures

pub put_leaf-requires : goal.put_leaf-requires
put_leaf-requires c = x_few c.requires.given.0 c.requires.laying.0 c.requires.laying.1

pub put_leaf-requires-in-Without : goal.put_leaf-requires-in-Without
put_leaf-requires-in-Without c = x_few c.requires.given.0 c.requires.laying.0 c.requires.laying.1

pub bounds-sizes-rhs : goal.bounds-sizes-rhs
bounds-sizes-rhs c =
    let r = row_in c.requires.given.0 c.requires.laying.0 c.requires.laying.1 c.part-part.ensures in
    omega (arith, r, c.in-Either.ensures.2, c.requires.given.0.sound.not_over)

pub overflow_add-left : goal.overflow_add-left
overflow_add-left c =
    let e = c.in-Either in
    let w = pair_fits c.requires.given.0 c.requires.laying.0 c.requires.laying.1 c.part-part.ensures c.requires.given.1 (record { row = e.lhs; within = e.lhs_in }) (record { row = e.rhs; within = e.rhs_in }) e.ensures.1 e.ensures.2 true e.ensures.0 in
    record { fits = omega (arith, w.1) }

pub put_either-requires-clause-at_bound : goal.put_either-requires-clause-at_bound
put_either-requires-clause-at_bound c =
    let e = c.in-Either in
    pair_fits c.requires.given.0 c.requires.laying.0 c.requires.laying.1 c.part-part.ensures c.requires.given.1 (record { row = e.lhs; within = e.lhs_in }) (record { row = e.rhs; within = e.rhs_in }) e.ensures.1 e.ensures.2 true e.ensures.0

pub put_either-requires-clause-parts_bound : goal.put_either-requires-clause-parts_bound
put_either-requires-clause-parts_bound c =
    let r = row_in c.requires.given.0 c.requires.laying.0 c.requires.laying.1 c.part-part.ensures in
    (omega (arith, r, c.in-Either.ensures.1, ap (λ (p : Part). p.row) c.new-lhs.ensures, c.requires.given.0.sound.not_over), omega (arith, r, c.in-Either.ensures.2, ap (λ (p : Part). p.row) c.new-rhs.ensures, c.requires.given.0.sound.not_over))

pub bounds-sizes-rhs-in-Both : goal.bounds-sizes-rhs-in-Both
bounds-sizes-rhs-in-Both c =
    let r = row_in c.requires.given.0 c.requires.laying.0 c.requires.laying.1 c.part-part.ensures in
    omega (arith, r, c.in-Both.ensures.2, c.requires.given.0.sound.not_over)

pub overflow_add-left-in-Both : goal.overflow_add-left-in-Both
overflow_add-left-in-Both c =
    let e = c.in-Both in
    let w = pair_fits c.requires.given.0 c.requires.laying.0 c.requires.laying.1 c.part-part.ensures c.requires.given.1 (record { row = e.lhs; within = e.lhs_in }) (record { row = e.rhs; within = e.rhs_in }) e.ensures.1 e.ensures.2 false e.ensures.0 in
    record { fits = omega (arith, w.1) }

pub put_both-requires-clause-at_bound : goal.put_both-requires-clause-at_bound
put_both-requires-clause-at_bound c =
    let e = c.in-Both in
    pair_fits c.requires.given.0 c.requires.laying.0 c.requires.laying.1 c.part-part.ensures c.requires.given.1 (record { row = e.lhs; within = e.lhs_in }) (record { row = e.rhs; within = e.rhs_in }) e.ensures.1 e.ensures.2 false e.ensures.0

pub put_both-requires-clause-parts_bound : goal.put_both-requires-clause-parts_bound
put_both-requires-clause-parts_bound c =
    let r = row_in c.requires.given.0 c.requires.laying.0 c.requires.laying.1 c.part-part.ensures in
    (omega (arith, r, c.in-Both.ensures.1, ap (λ (p : Part). p.row) c.new-lhs-in-Both.ensures, c.requires.given.0.sound.not_over), omega (arith, r, c.in-Both.ensures.2, ap (λ (p : Part). p.row) c.new-rhs-in-Both.ensures, c.requires.given.0.sound.not_over))

pub returns-in-With : goal.returns-in-With
returns-in-With c =
    let N = c.in-With.ensures in
    laid_with c.requires.given.0 c.requires.laying.0 c.requires.laying.1 c.part-part.ensures _ _ N.2 N.1 c.sharing_row.ensures c.put_leaf.ensures.by_number

pub returns-in-Without : goal.returns-in-Without
returns-in-Without c =
    let N = c.in-Without.ensures in
    laid_without c.requires.given.0 c.requires.laying.0 c.requires.laying.1 c.part-part.ensures _ _ N.2 N.1 c.put_leaf-in-Without.ensures.by_number

pub returns-in-Either : goal.returns-in-Either
returns-in-Either c =
    let e = c.in-Either in
    laid_either c.requires.given.0 c.requires.laying.0 c.requires.laying.1 c.part-part.ensures c.requires.given.1 (record { row = e.lhs; within = e.lhs_in }) (record { row = e.rhs; within = e.rhs_in }) e.ensures.1 e.ensures.2 c.new-lhs.ensures c.new-rhs.ensures e.ensures.0 c.put_either.ensures

pub returns-in-Both : goal.returns-in-Both
returns-in-Both c =
    let e = c.in-Both in
    laid_both c.requires.given.0 c.requires.laying.0 c.requires.laying.1 c.part-part.ensures c.requires.given.1 (record { row = e.lhs; within = e.lhs_in }) (record { row = e.rhs; within = e.rhs_in }) e.ensures.1 e.ensures.2 c.new-lhs-in-Both.ensures c.new-rhs-in-Both.ensures e.ensures.0 c.put_both.ensures
