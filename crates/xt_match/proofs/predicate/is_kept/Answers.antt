use Rattle.xt_match.proofs.predicate.is_kept.Goals as goal

pub returns-clause-runs : goal.returns-clause-runs
returns-clause-runs g c focus = c.caught.ensures _ _ _ _ _ c.value-ended.ensures.runs
