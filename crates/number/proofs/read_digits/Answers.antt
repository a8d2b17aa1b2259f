use Prim.Native.Nat.{ℕ, ◌+◌}
use native.Mathlib.Omega.{arith}
use mathlib.Core.Path.{◌≡◌, sym, ap, ◌∙◌}
use lib.ListN.{length, drop}
use Rattle.number.specs.Reading.{scanned}
use Rattle.number.proofs.Scanning.{scan_more, scan_stops, scan_over}
use Rattle.number.proofs.read_digits.Goals as goal

pub returns-then-not-is_ascii_digit : goal.returns-then-not-is_ascii_digit
returns-then-not-is_ascii_digit c =
    let l = c.loop-next in
    let no_digit = sym c.is_ascii_digit.ensures.value ∙ c.if-not-is_ascii_digit.true in
    sym (scan_stops c.args.text.now l.value l.next (omega arith) no_digit) ∙ l.invariant.1

pub loop-next-preserved : goal.loop-next-preserved
loop-next-preserved c =
    let l = c.loop-next in
    let digit = sym c.is_ascii_digit.ensures.value ∙ c.if-not-is_ascii_digit.false in
    let more = scan_more c.args.text.now l.value l.next (omega arith) digit in
    let grows = ap (λ (v : ℕ). scanned v (l.next + 1) (drop (l.next + 1) c.args.text.now)) c.grow-value.ensures.0 in
    (c.grow-value.ensures.1, grows ∙ sym more ∙ l.invariant.1)

pub returns : goal.returns
returns c =
    let l = c.loop-next in
    let text = c.args.text.now in
    let end : length text ≡ l.next = omega arith in
    sym (scan_over text l.value (length text) (omega arith)) ∙ ap (λ (i : ℕ). scanned l.value i (drop i text)) end ∙ l.invariant.1
