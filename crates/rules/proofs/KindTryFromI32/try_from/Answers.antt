use Prim.Native.Nat.{ℕ}
use mathlib.Core.Path.{◌≡◌, ap, ◌∙◌}
use mir.Syntax.{w32}
use Rattle.ground.proofs.Signed.{from_bits}
use Rattle.rules.specs.Kinds.{kind_number, kind_of}
use Rattle.rules.specs.declared.Kind.TheVariants.{Box, Wedge, Drum, Union, Inter, Diff, Triangle}
use Rattle.rules.specs.declared.Kind.{Kind}
use Rattle.rules.proofs.KindNumbers.{number_kind, none_of}
use Rattle.rules.proofs.KindTryFromI32.try_from.Goals as goal

-- a number that is none of the seven is no kind's
other : {n : ℕ} → (n ≡ 0 → ⊥) → (n ≡ 1 → ⊥) → (n ≡ 2 → ⊥) → (n ≡ 3 → ⊥) → (n ≡ 4 → ⊥) → (n ≡ 5 → ⊥) → (n ≡ 6 → ⊥) → (k : Kind) → n ≡ kind_number k → ⊥
other a b c d e f g Box = a
other a b c d e f g Wedge = b
other a b c d e f g Drum = c
other a b c d e f g Union = d
other a b c d e f g Inter = e
other a b c d e f g Diff = f
other a b c d e f g Triangle = g

pub returns-in-0 : goal.returns-in-0
returns-in-0 c = ap kind_of (from_bits w32 c.ranges.word c.in-0.in-0-own.keys1) ∙ number_kind Box

pub returns-in-1 : goal.returns-in-1
returns-in-1 c = ap kind_of (from_bits w32 c.ranges.word c.in-1.in-1-own.keys2) ∙ number_kind Wedge

pub returns-in-2 : goal.returns-in-2
returns-in-2 c = ap kind_of (from_bits w32 c.ranges.word c.in-2.in-2-own.keys3) ∙ number_kind Drum

pub returns-in-3 : goal.returns-in-3
returns-in-3 c = ap kind_of (from_bits w32 c.ranges.word c.in-3.in-3-own.keys4) ∙ number_kind Union

pub returns-in-4 : goal.returns-in-4
returns-in-4 c = ap kind_of (from_bits w32 c.ranges.word c.in-4.in-4-own.keys5) ∙ number_kind Inter

pub returns-in-5 : goal.returns-in-5
returns-in-5 c = ap kind_of (from_bits w32 c.ranges.word c.in-5.in-5-own.keys6) ∙ number_kind Diff

pub returns-in-6 : goal.returns-in-6
returns-in-6 c = ap kind_of (from_bits w32 c.ranges.word c.in-6.in-6-own.keys7) ∙ number_kind Triangle

pub returns-in_default : goal.returns-in_default
returns-in_default c =
    let h = c.in_default.in_default-own.rest in
    none_of c.args.word (other h.0.0.0.0.0.0.1 h.0.0.0.0.0.1 h.0.0.0.0.1 h.0.0.0.1 h.0.0.1 h.0.1 h.1)
