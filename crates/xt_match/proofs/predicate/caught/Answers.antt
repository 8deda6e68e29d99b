use Rattle.std.proofs.Common.{Ok, Err}
use Rattle.xt_questions.specs.declared.fault.EvalFault.TheVariants as faults
use Rattle.xt_questions.proofs.Steps.{runs_then, runs_stop, runs_gives}
use Rattle.xt_match.proofs.Together.{runs_caught}
use Rattle.xt_match.proofs.predicate.caught.Goals as goal

pub returns-in-Ok : goal.returns-in-Ok
returns-in-Ok c supply depth p s t h = runs_caught (Ok c.keeps-kept.result) (runs_then _ (rw c.in-Ok.is at h) (runs_gives c.keeps-kept.ensures))

pub returns-in-Err-Refused : goal.returns-in-Err-Refused
returns-in-Err-Refused c supply depth p s t h = runs_caught (Err (faults.Refused c.in-Err-Refused.field-0-0)) (runs_stop _ (rw (c.in-Err-Refused.is, c.in-Err-Refused.field-0-is) at h))

pub returns-in-Err-Wants : goal.returns-in-Err-Wants
returns-in-Err-Wants c supply depth p s t h = runs_caught (Err (faults.Wants c.in-Err-Wants.name)) (runs_stop _ (rw (c.in-Err-Wants.is, c.in-Err-Wants.field-0-is) at h))
