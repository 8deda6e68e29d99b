use Rattle.xt_tree.proofs.table.+with.Given as goal

abbrev pub decreases-with : goal.decreases-with
decreases-with l = l.number
