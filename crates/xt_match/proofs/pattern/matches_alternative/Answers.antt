use Rattle.xt_match.proofs.pattern.matches_alternative.Goals as goal

pub returns-clause-runs : goal.returns-clause-runs
returns-clause-runs g c f = rw c.as_slice-steps.ensures.value at (c.matches_steps.ensures.runs f)
