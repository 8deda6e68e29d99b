use Rattle.xt_questions.proofs.Steps.{runs_then, runs_stop, exits}
use Rattle.xp_values.proofs.convert.to_number.Goals as goal

pub returns-in-Text-clause-runs : goal.returns-in-Text-clause-runs
returns-in-Text-clause-runs g c supply depth = rw c.in-Text.is (c.read.ensures supply depth _)

pub returns-in_err-text-in-Nodes-clause-runs : goal.returns-in_err-text-in-Nodes-clause-runs
returns-in_err-text-in-Nodes-clause-runs g c supply depth =
    let first = rw c.as_slice.ensures.value at (c.in_err-text-in-Nodes.ensures.runs supply depth) in
    rw c.in-Nodes.is (exits _ c.from_residual.ensures.1 (runs_stop _ first))

pub returns-in_ok-text-in-Nodes-clause-runs : goal.returns-in_ok-text-in-Nodes-clause-runs
returns-in_ok-text-in-Nodes-clause-runs g c supply depth =
    let first = rw c.as_slice.ensures.value at (c.in_ok-text-in-Nodes.ensures.runs supply depth) in
    rw c.in-Nodes.is (runs_then _ first (c.read-in-Nodes.ensures supply depth _))

pub returns-in_ok-text-in-Fragment-clause-runs : goal.returns-in_ok-text-in-Fragment-clause-runs
returns-in_ok-text-in-Fragment-clause-runs g c supply depth =
    let read = rw c.in_ok-text-in-Fragment.ensures at (c.read-in-Fragment.ensures supply depth (g.W.World.state c.args.world.now)) in
    rw c.in-Fragment.is read
