use Prim.Native.Nat.{ℕ, ◌≤◌}
use native.Mathlib.Nat.{le_trans}
use mathlib.Core.Path.{sym, ap, subst, ◌∙◌}
use borrow.Author.Rules.{rules}
use mir.Syntax.{w32}
use mir.Val.{SFits}
use mir.ValLaws.{to_z-of_z}
use Rattle.ground.proofs.Signed.{reread}
use Rattle.rules.specs.declared.Axis.TheVariants.{Frame}
use Rattle.rules.specs.ListWords.{raised}
use Rattle.rules.specs.Ranges.{within, frames}
use Rattle.laws.proofs.Ranges.{framed, x_in}
use Rattle.margin.specs.Margins.{spot}
use Rattle.says.specs.Asking.{said_by}
use Rattle.says.proofs.Asking.{by_set, ready_sound}
use Rattle.holding.proofs.Around.{held_around}
use Rattle.sweep.proofs.renewed.Lts as lts
use Rattle.sweep.proofs.renewed.Tie as tie
use Rattle.sweep.proofs.renewed.Reads as reads
use Rattle.sweep.proofs.renewed.Goals as goal

abbrev Start : Type 0
Start = lts.Start tie.the-claims reads.Pre reads.Post tie.handed_clauses

fits : (s : Start) → SFits w32 s.args.p.x
fits s = search rules

pub hold_at-h-requires : goal.hold_at-h-requires
hold_at-h-requires c = let s = c.before.before in record { sound = ready_sound s.args.asked s.args.table.now s.args.list.now s.requires.ready; p_value = s.requires.p_value }

pub place_of-requires : goal.place_of-requires
place_of-requires c = let s = c.before.before.before.before.before.before in reread w32 (within frames) (fits s) (framed s.args.p.x (x_in s.args.p s.requires.p_value))

pub returns : goal.returns
returns c =
    let s = c.before.before.before.before.before.before.before.before in
    let p = s.args.p in
    let t = s.args.table.now in
    let list = s.args.list.now in
    let H = c.hold_at-h.ensures in
    let x = c.place_of.ensures.value ∙ ap (raised Frame) (to_z-of_z w32 p.x (fits s)) in
    record {
      some_code = le_trans H.here.low H.here.up;
      each = λ a b l m n o. by_set s.args.asked t list (spot p.z a b) s.requires.ready
          ∙ ap (said_by s.args.asked t list) (held_around s.requires.p_value H a b (subst (λ (k : ℕ). k ≤ a) x l) (record { on = m; low = n; up = o }))
          ∙ sym c.says.ensures;
    }
