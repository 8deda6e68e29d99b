use Rattle.xp_functions.proofs.call.applied.Goals as goal

pub returns-in-OfContext-clause-runs : goal.returns-in-OfContext-clause-runs
returns-in-OfContext-clause-runs g c = rw c.in-OfContext.is (c.of_context.ensures.runs)

pub returns-in-OfNodes-clause-runs : goal.returns-in-OfNodes-clause-runs
returns-in-OfNodes-clause-runs g c = rw c.in-OfNodes.is (c.call_of_nodes.ensures.runs _ _)

pub returns-in-OfTexts-clause-runs : goal.returns-in-OfTexts-clause-runs
returns-in-OfTexts-clause-runs g c = rw c.in-OfTexts.is (c.call_of_texts.ensures.runs _ _)

pub returns-in-OfText-clause-runs : goal.returns-in-OfText-clause-runs
returns-in-OfText-clause-runs g c = rw c.in-OfText.is (c.call_of_text.ensures.runs _ _)

pub returns-in-OfValue-clause-runs : goal.returns-in-OfValue-clause-runs
returns-in-OfValue-clause-runs g c = rw c.in-OfValue.is (c.call_of_value.ensures.runs _ _)

pub returns-in-Substring-clause-runs : goal.returns-in-Substring-clause-runs
returns-in-Substring-clause-runs g c = rw c.in-Substring.is (c.substring_of.ensures.runs _ _)

pub returns-in-Key-clause-runs : goal.returns-in-Key-clause-runs
returns-in-Key-clause-runs g c = rw c.in-Key.is (c.key_of.ensures.runs _ _)
