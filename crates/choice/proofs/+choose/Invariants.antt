use Rattle.choice.proofs.+choose.Given as goal

abbrev pub decreases-choose : goal.decreases-choose
decreases-choose l = l.row
