use mathlib.Core.Path.{ap, subst, ◌∙◌}
use lib.IntN.{ℤ}
use mir.Syntax.{w32}
use mir.Val.{to_z, of_z}
use mir.ValLaws.{to_z-of_z}
use Rattle.number.specs.Reading.{Confirmed}
use Rattle.number.proofs.Reading.{none_after_end, read_stops, read_guess, none_fits, confirmed_reads}
use Rattle.number.proofs.read_number.Goals as goal

pub returns-in_err-minus : goal.returns-in_err-minus
returns-in_err-minus c = rw c.from_residual.ensures (none_after_end c.args.text.now c.args.at c.in_err-minus.ensures.lookup.3)

pub returns-in_err-value : goal.returns-in_err-value
returns-in_err-value c =
    let byte = c.in_ok-minus.ensures.lookup.3 in
    let digits = c.read_digits-digits.ensures in
    let stops = read_stops c.args.text.now c.args.at byte.0 (byte.1 0) c.from.ensures digits in
    let guess = read_guess c.args.text.now c.args.at byte.0 (byte.1 0) c.from.ensures digits in
    rw c.from_residual-in_err-value.ensures (none_fits c.args.text.now c.args.at stops guess (λ w. c.in_err-value.ensures (record { sfits = w.fits })))

pub confirm-requires : goal.confirm-requires
confirm-requires c =
    let byte = c.in_ok-minus.ensures.lookup.3 in
    let stops = read_stops c.args.text.now c.args.at byte.0 (byte.1 0) c.from.ensures c.read_digits-digits.ensures in
    (stops.after, stops.inside)

pub returns : goal.returns
returns c =
    let byte = c.in_ok-minus.ensures.lookup.3 in
    let digits = c.read_digits-digits.ensures in
    let stops = read_stops c.args.text.now c.args.at byte.0 (byte.1 0) c.from.ensures digits in
    let guess = read_guess c.args.text.now c.args.at byte.0 (byte.1 0) c.from.ensures digits in
    let value = c.in_ok-value.ensures in
    let handed = ap (λ (z : ℤ). to_z w32 (of_z w32 z)) value.1 ∙ to_z-of_z w32 _ value.0 in
    confirmed_reads c.args.text.now c.args.at stops guess (record { fits = value.0.sfits })
    (subst (λ (v : ℤ). Confirmed c.args.text.now c.args.at c.read_digits-digits.result.next v c.confirm.result) handed c.confirm.ensures)
