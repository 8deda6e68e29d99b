use Rattle.xt_match.proofs.Views.{last_first, none_left}
use Rattle.xt_match.proofs.fitting.last_fits.Goals as goal

pub returns-in-None : goal.returns-in-None
returns-in-None c = rw (none_left c.args.steps.now c.in-None.ensures.cases) c.start_fits.ensures

pub returns-in-Some : goal.returns-in-Some
returns-in-Some c = rw (last_first c.args.steps.now _ c.in-Some.last.now c.in-Some.ensures.cases.0) c.step_fits.ensures
