use Rattle.xt_questions.proofs.Steps.{runs_then, runs_stop, exits}
use Rattle.xp_values.proofs.operand.NumComparand.read.Goals as goal

pub returns-in_err-text-in-Node-clause-runs : goal.returns-in_err-text-in-Node-clause-runs
returns-in_err-text-in-Node-clause-runs g c supply depth =
    rw c.in-Node.is (exits _ c.from_residual.ensures.1 (runs_stop _ (c.in_err-text-in-Node.ensures.runs supply depth)))

pub returns-in_ok-text-in-Node-clause-runs : goal.returns-in_ok-text-in-Node-clause-runs
returns-in_ok-text-in-Node-clause-runs g c supply depth =
    rw c.in-Node.is (runs_then _ (c.in_ok-text-in-Node.ensures.runs supply depth) (c.read.ensures supply depth _))

pub returns-in-Text-clause-runs : goal.returns-in-Text-clause-runs
returns-in-Text-clause-runs g c supply depth = rw c.in-Text.is (c.read-in-Text.ensures supply depth _)
