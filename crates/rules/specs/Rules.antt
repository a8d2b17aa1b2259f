-- Section 12 of docs/RULES.md: the rules that a call can refuse by, and their numbers in the table of refusals.
use Rattle.std.specs.Prelude.{ℕ, eqb, if◌then◌else◌}
use Rattle.rules.specs.declared.Rule.{Rule}
use Rattle.rules.specs.declared.Rule.TheVariants as rule

abbrev pub number_of : Rule → ℕ
number_of rule.Length = 1
number_of rule.Kind = 2
number_of rule.Fields = 3
number_of rule.Children = 4
number_of rule.Once = 5
number_of rule.Bound = 6
number_of rule.Choices = 7
number_of rule.Room = 8
number_of rule.List = 9
number_of rule.Outside = 10
number_of rule.Primitives = 11
number_of rule.Frame = 12
number_of rule.Text = 13
number_of rule.Leaves = 14
number_of rule.Ways = 15

-- and the rule of a number of the table
abbrev pub rule_of : ℕ → Rule
rule_of n =
    if eqb n 1 then rule.Length else
    if eqb n 2 then rule.Kind else
    if eqb n 3 then rule.Fields else
    if eqb n 4 then rule.Children else
    if eqb n 5 then rule.Once else
    if eqb n 6 then rule.Bound else
    if eqb n 7 then rule.Choices else
    if eqb n 8 then rule.Room else
    if eqb n 9 then rule.List else
    if eqb n 10 then rule.Outside else
    if eqb n 11 then rule.Primitives else
    if eqb n 12 then rule.Frame else
    if eqb n 13 then rule.Text else
    if eqb n 14 then rule.Leaves else
    rule.Ways
