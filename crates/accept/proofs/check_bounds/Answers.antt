use native.Mathlib.Omega.{arith}
use mathlib.Core.Path.{◌∙◌}
use Rattle.ground.specs.Lists.{first_of}
use Rattle.rules.specs.ListFaults.{words_refusals}
use Rattle.laws.specs.Checking.{checked_by}
use Rattle.laws.proofs.Axes.{bounds_early}
use Rattle.accept.proofs.check_bounds.Goals as goal

pub check_words-requires : goal.check_words-requires
check_words-requires c = let s = c.before.before.before.before in omega (arith, c.bounds_word-i.ensures, bounds_early s.args.axis, s.requires)

pub returns : goal.returns
returns c =
    let m = c.before.before in
    let b = m.before in
    c.check_words.ensures ∙ (λ i. checked_by (first_of (words_refusals b.args.list.now (b.bounds_word-i.ensures i) (m.most_word-most.ensures i))))
