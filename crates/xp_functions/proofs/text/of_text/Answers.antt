use Rattle.xp_functions.proofs.text.of_text.Goals as goal

pub returns-in-StringLength-clause-runs : goal.returns-in-StringLength-clause-runs
returns-in-StringLength-clause-runs g c supply depth = rw c.in-StringLength.is (c.string_length.ensures supply depth _)

pub returns-in-NormalizeSpace-clause-runs : goal.returns-in-NormalizeSpace-clause-runs
returns-in-NormalizeSpace-clause-runs g c supply depth = rw c.in-NormalizeSpace.is (c.normal.ensures supply depth _)

pub returns-in-Lang-clause-runs : goal.returns-in-Lang-clause-runs
returns-in-Lang-clause-runs g c supply depth = rw c.in-Lang.is (c.lang.ensures.runs supply depth)

pub returns-in-SystemProperty-clause-runs : goal.returns-in-SystemProperty-clause-runs
returns-in-SystemProperty-clause-runs g c supply depth = rw c.in-SystemProperty.is (c.property.ensures supply depth _)

pub returns-in-ElementAvailable-clause-runs : goal.returns-in-ElementAvailable-clause-runs
returns-in-ElementAvailable-clause-runs g c supply depth = rw c.in-ElementAvailable.is (c.has_instruction.ensures supply depth _)

pub returns-in-FunctionAvailable-clause-runs : goal.returns-in-FunctionAvailable-clause-runs
returns-in-FunctionAvailable-clause-runs g c supply depth = rw c.in-FunctionAvailable.is (c.has_function.ensures supply depth _)
