use Rattle.xp_functions.proofs.value.of_value.Goals as goal

pub returns-in-String-clause-runs : goal.returns-in-String-clause-runs
returns-in-String-clause-runs g c supply depth = rw c.in-String.is (c.string.ensures.runs supply depth)

pub returns-in-Number-clause-runs : goal.returns-in-Number-clause-runs
returns-in-Number-clause-runs g c supply depth = rw c.in-Number.is (c.number.ensures.runs supply depth)

pub returns-in-Rounded-clause-runs : goal.returns-in-Rounded-clause-runs
returns-in-Rounded-clause-runs g c supply depth = rw c.in-Rounded.is (c.number-in-Rounded.ensures.runs supply depth)
