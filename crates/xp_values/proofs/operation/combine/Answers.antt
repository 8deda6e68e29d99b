use Rattle.xp_values.proofs.operation.combine.Goals as goal

pub returns-in-Union-clause-runs : goal.returns-in-Union-clause-runs
returns-in-Union-clause-runs g c supply depth = rw c.in-Union.is (c.unite.ensures.runs supply depth)

pub returns-in_default-clause-runs : goal.returns-in_default-clause-runs
returns-in_default-clause-runs g c supply depth = c.combine_lent-made.ensures.runs c.in_default.not-Union supply depth
