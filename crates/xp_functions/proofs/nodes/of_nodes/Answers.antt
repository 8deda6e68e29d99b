use Rattle.xp_functions.proofs.nodes.of_nodes.Goals as goal

pub returns-in-Count-clause-runs : goal.returns-in-Count-clause-runs
returns-in-Count-clause-runs g c supply depth = rw c.in-Count.is (c.count.ensures supply depth _)

pub returns-in-Sum-clause-runs : goal.returns-in-Sum-clause-runs
returns-in-Sum-clause-runs g c supply depth = rw c.in-Sum.is (c.sum.ensures.runs supply depth)

pub returns-in-LocalName-clause-runs : goal.returns-in-LocalName-clause-runs
returns-in-LocalName-clause-runs g c supply depth = rw c.in-LocalName.is (c.of_first.ensures.runs supply depth)

pub returns-in-NamespaceUri-clause-runs : goal.returns-in-NamespaceUri-clause-runs
returns-in-NamespaceUri-clause-runs g c supply depth = rw c.in-NamespaceUri.is (c.of_first-in-NamespaceUri.ensures.runs supply depth)

pub returns-in-Name-clause-runs : goal.returns-in-Name-clause-runs
returns-in-Name-clause-runs g c supply depth = rw c.in-Name.is (c.of_first-in-Name.ensures.runs supply depth)

pub returns-in-GenerateId-clause-runs : goal.returns-in-GenerateId-clause-runs
returns-in-GenerateId-clause-runs g c supply depth = rw c.in-GenerateId.is (c.of_first-in-GenerateId.ensures.runs supply depth)
