use Rattle.spec_meaning.proofs.Runs as runs
use Rattle.spec_agreement.proofs.programs.agreement.Goals as goal

pub returns : goal.returns
returns c = λ type p ask other supply others depth holds ends. runs.agreement ask other supply others depth p holds ends
