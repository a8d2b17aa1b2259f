use mathlib.Core.Path.{sym, ap, ◌∙◌}
use Rattle.ground.proofs.Counting.{first_rulings}
use Rattle.rules.specs.ListFaults.{header_refusals, product_refusals, list_refusal}
use Rattle.rules.specs.ListWords.{product_count}
use Rattle.laws.specs.Checking.{checked_by}
use Rattle.laws.proofs.SoundLists.{header_sound}
use Rattle.laws.proofs.Telling.{went_on}
use Rattle.laws.proofs.Turns.{first_broken, first_kept_on, part_broken, part_kept}
use Rattle.accept.proofs.check_list.Goals as goal

pub returns-in_err-refuse_if : goal.returns-in_err-refuse_if
unfolding list_refusal
returns-in_err-refuse_if c = first_broken _ _ c.from_residual.ensures.1 c.in_err-refuse_if.ensures

pub returns-in_err-check_header : goal.returns-in_err-check_header
unfolding list_refusal
returns-in_err-check_header c =
    first_kept_on _ _ c.in_ok-refuse_if.ensures
    (part_broken (header_refusals c.args.list.now) _ c.from_residual-in_err-check_header.ensures.1 c.in_err-check_header.ensures)

pub all_of-requires : goal.all_of-requires
all_of-requires c = let h = header_sound c.args.list.now (went_on _ c.in_ok-check_header.ensures) in (h.some_primitive, h.few_primitives)

pub check_products-requires : goal.check_products-requires
check_products-requires c =
    let h = header_sound c.args.list.now (went_on _ c.in_ok-check_header.ensures) in record { products_in_bounds = h.room; all_value = c.all_of.ensures }

pub returns : goal.returns
unfolding list_refusal
returns c =
    let list = c.args.list.now in
    first_kept_on _ _ c.in_ok-refuse_if.ensures
    (part_kept (header_refusals list) _ c.in_ok-check_header.ensures
    (c.check_products.ensures ∙ ap checked_by (sym (first_rulings (product_refusals list) (product_count list)))))
