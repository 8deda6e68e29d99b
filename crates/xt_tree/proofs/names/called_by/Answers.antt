use Rattle.xt_tree.proofs.names.called_by.Goals as goal

pub returns : goal.returns
returns c = λ i. record { name = c.in_ok-name.ensures i; scope = c.in-Ok.ensures i }
