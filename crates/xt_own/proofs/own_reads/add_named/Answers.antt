use Rattle.xt_own.proofs.own_reads.add_named.Goals as goal

pub loop-name-preserved : goal.loop-name-preserved
loop-name-preserved c = λ parameters h. c.in_ok-add_key.ensures parameters (c.loop-name.invariant parameters h)
