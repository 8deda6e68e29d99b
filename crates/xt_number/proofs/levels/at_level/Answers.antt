use Rattle.xt_questions.proofs.Steps.{runs_then, runs_stop, exits}
use Rattle.xt_number.proofs.levels.at_level.Goals as goal

pub returns-in_err-nodes-in-Single-clause-runs : goal.returns-in_err-nodes-in-Single-clause-runs
returns-in_err-nodes-in-Single-clause-runs g c = rw c.in-Single.is (exits _ c.from_residual.ensures.1 (runs_stop _ c.in_err-nodes-in-Single.ensures.runs))

pub returns-in_ok-nodes-in-Single-clause-runs : goal.returns-in_ok-nodes-in-Single-clause-runs
returns-in_ok-nodes-in-Single-clause-runs g c =
    rw c.in-Single.is (runs_then _ c.in_ok-nodes-in-Single.ensures.runs (rw c.as_slice.ensures.value at (c.of_first.ensures.runs c.args.focus)))

pub returns-in_err-nodes-in-Multiple-clause-runs : goal.returns-in_err-nodes-in-Multiple-clause-runs
returns-in_err-nodes-in-Multiple-clause-runs g c = rw c.in-Multiple.is (exits _ c.from_residual-in_err-nodes-in-Multiple.ensures.1 (runs_stop _ c.in_err-nodes-in-Multiple.ensures.runs))

pub returns-in_ok-nodes-in-Multiple-clause-runs : goal.returns-in_ok-nodes-in-Multiple-clause-runs
returns-in_ok-nodes-in-Multiple-clause-runs g c =
    rw c.in-Multiple.is (runs_then _ c.in_ok-nodes-in-Multiple.ensures.runs (rw c.as_slice-in-Multiple.ensures.value at (c.of_all.ensures.runs c.args.focus)))

pub returns-in_err-nodes-in-Any-clause-runs : goal.returns-in_err-nodes-in-Any-clause-runs
returns-in_err-nodes-in-Any-clause-runs g c = rw c.in-Any.is (exits _ c.from_residual-in_err-nodes-in-Any.ensures.1 (runs_stop _ c.in_err-nodes-in-Any.ensures.runs))

pub returns-in_ok-nodes-in-Any-clause-runs : goal.returns-in_ok-nodes-in-Any-clause-runs
returns-in_ok-nodes-in-Any-clause-runs g c =
    rw c.in-Any.is (runs_then _ c.in_ok-nodes-in-Any.ensures.runs (rw c.as_slice-in-Any.ensures.value at (c.of_count.ensures.runs c.args.focus)))
