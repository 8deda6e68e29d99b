use Rattle.xp_values.proofs.operand.TextComparand.read.Goals as goal

pub returns-in-Node-clause-runs : goal.returns-in-Node-clause-runs
returns-in-Node-clause-runs g c supply depth = rw c.in-Node.is (c.ask_text.ensures.runs supply depth)
