use Rattle.std.proofs.Common.{refl, sym}
use Rattle.xt_questions.proofs.Steps.{runs_gives}
use Rattle.xt_match.proofs.predicate.is_kept_there.Goals as goal

pub returns-in-None-clause-runs : goal.returns-in-None-clause-runs
returns-in-None-clause-runs g c f = rw (sym c.in-None.ensures) (runs_gives refl)

pub returns-in-Some-clause-runs : goal.returns-in-Some-clause-runs
returns-in-Some-clause-runs g c f = rw (sym c.in-Some.ensures) (c.is_kept.ensures.runs f)
