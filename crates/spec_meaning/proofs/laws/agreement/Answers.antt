use Rattle.spec_meaning.proofs.Runs as runs
use Rattle.spec_meaning.proofs.laws.agreement.Goals as goal

pub returns : goal.returns
returns c = λ p ask other supply others depth holds ends. runs.agreement ask other supply others depth p holds ends
