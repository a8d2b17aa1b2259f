-- What stands at a node: what is left of its word by 32. Assumes nothing.
use Prim.Native.Nat.{ℕ, ◌%◌, ◌<◌}
use mathlib.Core.Path.{ap, ◌∙◌}
use borrow.Author.Rules.{rules}
use lib.ListN.{length}
use Rattle.normal.proofs.Words.{lies_in, lies_word, lies_short, head_of_word, node_top, primitive_top}
use Rattle.normal.proofs.Numbers.{as_number, number_fits}
use Rattle.normal.proofs.head.Goals as goal

pub offset_bounds-w-at : goal.offset_bounds-w-at
offset_bounds-w-at c = let i : c.args.at < length c.args.w.now = lies_in c.requires.1 in search rules

pub bounds-w-at : goal.bounds-w-at
bounds-w-at c = lies_in c.requires.1

pub overflow_cast-number : goal.overflow_cast-number
overflow_cast-number c = number_fits (lies_word c.requires.1) (lies_short c.requires.1)

pub returns-in-Some : goal.returns-in-Some
returns-in-Some c = λ T h.
    node_top T h.small c.in-Some.operation c.in-Some.ensures (ap (λ (n : ℕ). n % 32) (as_number (lies_word h) (lies_short h)) ∙ head_of_word T h.small)

pub returns-in-None : goal.returns-in-None
returns-in-None c = λ T h.
    primitive_top T c.in-None.ensures (ap (λ (n : ℕ). n % 32) (as_number (lies_word h) (lies_short h)) ∙ head_of_word T h.small)
