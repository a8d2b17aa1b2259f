-- The ways, then the list. Assumes nothing.
use Prim.Native.Nat.{ℕ}
use native.Mathlib.Omega.{arith}
use mathlib.Core.Path.{sym, ◌∙◌}
use lib.ListN.{length-replicate}
use Rattle.laws.proofs.Soundness.{table_sound}
use Rattle.laws.specs.Sound.{Sound}
use Rattle.choice.proofs.Steps.{expansion_ways}
use Rattle.list.proofs.Calls.{made_many}
use Rattle.list.proofs.make_for.Lts as lts
use Rattle.list.proofs.make_for.Tie as tie
use Rattle.list.proofs.make_for.Reads as reads
use Rattle.list.proofs.make_for.Goals as goal

abbrev Start : Type 0
Start = lts.Start tie.the-claims reads.Pre reads.Post tie.handed_clauses

sound : (s : Start) → Sound s.args.table.now
sound s = table_sound s.args.table.now s.requires.0

pub number_rows-solids-requires : goal.number_rows-solids-requires
number_rows-solids-requires c = record { sound = sound c.before.before.before; bits_len = length-replicate {A = ℕ} 127 0 }

pub ways_of-ways-requires : goal.ways_of-ways-requires
ways_of-ways-requires c = (sound c.before.before.before.before.before, c.number_rows-solids.ensures.1)

pub returns-then-ways-gt-MOST_CHOICES : goal.returns-then-ways-gt-MOST_CHOICES
returns-then-ways-gt-MOST_CHOICES c =
    let at-number-rows = c.before.before.before.before in
    let s = at-number-rows.before.before.before in
    made_many s.args.table.now s.args.w s.args.list.now s.requires.0 s.requires.1 (c.ways_of-ways.ensures ∙ sym (expansion_ways s.args.table.now)) c.if-ways-gt-MOST_CHOICES.true

pub make_of-requires : goal.make_of-requires
make_of-requires c =
    let at-ways-of = c.before.before.before in
    let at-number-rows = at-ways-of.before.before in
    let s = at-number-rows.before.before.before in record {
      table_value = s.requires;
      numbered = (at-number-rows.number_rows-solids.ensures.1, at-number-rows.number_rows-solids.ensures.0);
      ways_value = (at-ways-of.ways_of-ways.ensures, omega (arith, c.if-ways-gt-MOST_CHOICES.false));
    }
