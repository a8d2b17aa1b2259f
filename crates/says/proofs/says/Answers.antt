use mathlib.Core.Path.{◌≡◌, sym, ap, subst, ◌∙◌}
use Rattle.laws.proofs.SoundLists.{list_sound}
use Rattle.says.specs.declared.Asked.{Asked}
use Rattle.says.specs.Asking.{said_by, Ready}
use Rattle.says.proofs.Asking.{ready_sound}
use Rattle.says.proofs.says.Lts as lts
use Rattle.says.proofs.says.Tie as tie
use Rattle.says.proofs.says.Reads as reads
use Rattle.says.proofs.says.Goals as goal

abbrev Start : Type 0
Start = lts.Start tie.the-claims reads.Pre reads.Post

-- what is said, by the one that was met
said : (s : Start) {a : Asked} → s.args.asked ≡ a → said_by a s.args.table.now s.args.list.now s.args.set ≡ said_by s.args.asked s.args.table.now s.args.list.now s.args.set
said s is = ap (λ (a : Asked). said_by a s.args.table.now s.args.list.now s.args.set) (sym is)

pub tree_says-requires : goal.tree_says-requires
tree_says-requires c = let s = c.before.before.before in ready_sound s.args.asked s.args.table.now s.args.list.now s.requires

pub suits_some-requires : goal.suits_some-requires
suits_some-requires c =
    let s = c.before.before.before in
    let A = subst (λ (a : Asked). Ready a s.args.table.now s.args.list.now) c.in-List.is s.requires in
    list_sound s.args.list.now A.list_right

pub returns-in-Tree : goal.returns-in-Tree
returns-in-Tree c = let k = c.before.before in c.tree_says.ensures ∙ said k.before.before k.in-Tree.is

pub returns-in-List : goal.returns-in-List
returns-in-List c = let k = c.before.before in c.suits_some.ensures ∙ said k.before.before k.in-List.is
