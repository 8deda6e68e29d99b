use Rattle.spec_meaning.specs.Program.{then}
use Rattle.spec_meaning.specs.Call.{language_of}
use Rattle.xt_questions.proofs.Steps.{runs_then, runs_stop, exits}
use Rattle.xp_functions.proofs.language.lang.Goals as goal

pub returns-in_err-elements-clause-runs : goal.returns-in_err-elements-clause-runs
unfolding then
returns-in_err-elements-clause-runs g c supply depth =
    exits _ c.from_residual.ensures.1 (runs_stop (language_of c.args.wanted.now) (c.in_err-elements.ensures.runs supply depth))

pub returns-clause-runs : goal.returns-clause-runs
unfolding then
returns-clause-runs g c supply depth =
    runs_then (language_of c.args.wanted.now) (c.in_ok-elements.ensures.runs supply depth) (rw c.as_slice.ensures.value at (c.language_of.ensures.runs supply depth))
