-- Whether the left part is a union. Assumes nothing.
use Prim.Native.Nat.{◌<◌}
use mathlib.Core.Bool.{not}
use mathlib.Core.Path.{sym, ap, ◌∙◌}
use borrow.Author.Rules.{rules}
use lib.ListN.{length}
use Rattle.normal.specs.Prefix.{left_of}
use Rattle.normal.proofs.Words.{lies_in, lies_left, union_is}
use Rattle.normal.proofs.Whole.{goes_no, goes_left}
use Rattle.normal.proofs.again.Goals as goal

pub overflow_add-at : goal.overflow_add-at
overflow_add-at c = let i : c.args.at < length c.args.w.now = lies_in c.requires.1 in search rules

pub stands-requires-then-not-stands : goal.stands-requires-then-not-stands
stands-requires-then-not-stands c = (left_of c.requires.0, lies_left c.requires.1 c.requires.2)

pub returns-then-not-stands : goal.returns-then-not-stands
returns-then-not-stands c = λ T h k.
    c.stands-then-not-stands.ensures (left_of T) (lies_left h k) ∙ union_is (left_of T) ∙ goes_left T h.small k (sym (c.stands.ensures T h ∙ union_is T) ∙ c.if-not-stands.true)

pub returns-else-not-stands : goal.returns-else-not-stands
returns-else-not-stands c = λ T h k. ap not c.if-not-stands.false ∙ goes_no T (sym (c.stands.ensures T h ∙ union_is T) ∙ c.if-not-stands.false)
