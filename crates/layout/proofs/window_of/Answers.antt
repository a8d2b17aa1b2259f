use mathlib.Core.Path.{◌∙◌}
use borrow.Author.Rules.{rules}
use mir.Syntax.{w32}
use mir.ValLaws.{to_z-of_z}
use Rattle.layout.proofs.window_of.Goals as goal

pub returns : goal.returns
returns c =
    let b5 = c.before.before in
    let b4 = b5.before in
    let b3 = b4.before in
    let b2 = b3.before in
    let b1 = b2.before in
    (λ i. record {
      x = record { lo = (to_z-of_z w32 b1.bound_at.result (search rules) ∙ b1.bound_at.ensures) i; hi = (to_z-of_z w32 b2.bound_at-2.result (search rules) ∙ b2.bound_at-2.ensures) i };
      y = record { lo = (to_z-of_z w32 b3.bound_at-3.result (search rules) ∙ b3.bound_at-3.ensures) i; hi = (to_z-of_z w32 b4.bound_at-4.result (search rules) ∙ b4.bound_at-4.ensures) i };
      z = record { lo = (to_z-of_z w32 b5.bound_at-5.result (search rules) ∙ b5.bound_at-5.ensures) i; hi = (to_z-of_z w32 c.bound_at-6.result (search rules) ∙ c.bound_at-6.ensures) i };
    })
