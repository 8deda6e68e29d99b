use Rattle.xp_functions.proofs.context.of_context.Goals as goal

pub returns-in-Last-clause-runs : goal.returns-in-Last-clause-runs
returns-in-Last-clause-runs g c = rw c.in-Last.is (c.size.ensures.runs)

pub returns-in-Position-clause-runs : goal.returns-in-Position-clause-runs
returns-in-Position-clause-runs g c = rw c.in-Position.is (c.position.ensures.runs)

pub returns-in-Current-clause-runs : goal.returns-in-Current-clause-runs
returns-in-Current-clause-runs g c = rw c.in-Current.is (c.current.ensures _ _ _)
