use Rattle.xp_functions.proofs.key.keyed.Goals as goal

pub returns-in-Nodes-clause-runs : goal.returns-in-Nodes-clause-runs
returns-in-Nodes-clause-runs g c supply depth = rw c.in-Nodes.is (rw c.as_slice.ensures.value at (c.of_texts_of.ensures.runs supply depth))

pub returns-in-Number-clause-runs : goal.returns-in-Number-clause-runs
returns-in-Number-clause-runs g c supply depth = rw c.in-Number.is (c.of_text_of.ensures.runs supply depth)

pub returns-in-Text-clause-runs : goal.returns-in-Text-clause-runs
returns-in-Text-clause-runs g c supply depth = rw c.in-Text.is (c.of_text_of-in-Text.ensures.runs supply depth)

pub returns-in-Boolean-clause-runs : goal.returns-in-Boolean-clause-runs
returns-in-Boolean-clause-runs g c supply depth = rw c.in-Boolean.is (c.of_text_of-in-Boolean.ensures.runs supply depth)

pub returns-in-Fragment-clause-runs : goal.returns-in-Fragment-clause-runs
returns-in-Fragment-clause-runs g c supply depth = rw c.in-Fragment.is (c.of_text_of-in-Fragment.ensures.runs supply depth)
