use Rattle.xp_values.proofs.convert.to_text.Goals as goal

pub returns-in-Nodes-clause-runs : goal.returns-in-Nodes-clause-runs
returns-in-Nodes-clause-runs g c supply depth = rw (c.in-Nodes.is, ← c.as_slice.ensures.value) (c.first_text.ensures.runs supply depth)
