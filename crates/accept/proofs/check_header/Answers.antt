use Rattle.rules.specs.declared.Axis.TheVariants.{Column, Code, Frame}
use Rattle.rules.specs.ListFaults.{bounds_refusals}
use Rattle.laws.proofs.Telling.{alone}
use Rattle.laws.proofs.Turns.{first_broken, first_kept_on, part_broken, part_kept}
use Rattle.accept.proofs.check_header.Goals as goal

pub returns-in_err-check_count : goal.returns-in_err-check_count
returns-in_err-check_count c = first_broken _ _ c.from_residual.ensures.1 c.in_err-check_count.ensures

pub returns-in_err-check_bounds : goal.returns-in_err-check_bounds
returns-in_err-check_bounds c =
    first_kept_on _ _ c.in_ok-check_count.ensures
    (part_broken (bounds_refusals c.args.list.now Column) _ c.from_residual-in_err-check_bounds.ensures.1 c.in_err-check_bounds.ensures)

pub returns-in_err-check_bounds-2 : goal.returns-in_err-check_bounds-2
returns-in_err-check_bounds-2 c =
    first_kept_on _ _ c.in_ok-check_count.ensures
    (part_kept (bounds_refusals c.args.list.now Column) _ c.in_ok-check_bounds.ensures
    (part_broken (bounds_refusals c.args.list.now Code) _ c.from_residual-in_err-check_bounds-2.ensures.1 c.in_err-check_bounds-2.ensures))

pub returns-in_err-check_bounds-3 : goal.returns-in_err-check_bounds-3
returns-in_err-check_bounds-3 c =
    first_kept_on _ _ c.in_ok-check_count.ensures
    (part_kept (bounds_refusals c.args.list.now Column) _ c.in_ok-check_bounds.ensures
    (part_kept (bounds_refusals c.args.list.now Code) _ c.in_ok-check_bounds-2.ensures
    (part_broken (bounds_refusals c.args.list.now Frame) _ c.from_residual-in_err-check_bounds-3.ensures.1 c.in_err-check_bounds-3.ensures)))

pub returns : goal.returns
returns c =
    first_kept_on _ _ c.in_ok-check_count.ensures
    (part_kept (bounds_refusals c.args.list.now Column) _ c.in_ok-check_bounds.ensures
    (part_kept (bounds_refusals c.args.list.now Code) _ c.in_ok-check_bounds-2.ensures
    (part_kept (bounds_refusals c.args.list.now Frame) _ c.in_ok-check_bounds-3.ensures (alone _ c.check_primitives.ensures))))
