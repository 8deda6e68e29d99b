use Rattle.std.proofs.Common.{Ok, Err, refl, ap}
use Rattle.spec_transform.specs.Key.{refused_there}
use Rattle.xt_questions.specs.declared.fault.EvalFault.TheVariants.{Refused, Wants}
use Rattle.xt_questions.specs.declared.fault.Refusal.TheVariants.{Here, At}
use Rattle.xt_questions.proofs.Steps.{runs_keeps, runs_memory, exits}
use Rattle.xt_match.proofs.Together.{runs_as}
use Rattle.xt_keys.proofs.There.{runs_there}
use Rattle.xt_keys.proofs.values.refused_there.Goals as goal

pub returns-in_err-place-in-Err-Refused-Here : goal.returns-in_err-place-in-Err-Refused-Here
returns-in_err-place-in-Err-Refused-Here c = λ supply depth p s t h. exits _ c.from_residual.ensures.1 (runs_memory refl (runs_keeps h))

pub returns-in_ok-place-in-Err-Refused-Here : goal.returns-in_ok-place-in-Err-Refused-Here
returns-in_ok-place-in-Err-Refused-Here c = λ supply depth p s t h.
    runs_as (ap (λ place. refused_there place p) (c.in_ok-place-in-Err-Refused-Here.ensures {u = tt})) (runs_there c.in_ok-place-in-Err-Refused-Here.place (Err (Refused (Here c.in-Err-Refused-Here.code))) (rw c.in-Err-Refused-Here.field-0-0-is at (rw c.in-Err-Refused-Here.field-0-is at (rw c.in-Err-Refused-Here.is at h))))

pub returns-in-Ok : goal.returns-in-Ok
returns-in-Ok c = λ supply depth p s t h. runs_there c.args.place.now (Ok c.in-Ok.texts) (rw c.in-Ok.is at h)

pub returns-in-Err-Refused-At : goal.returns-in-Err-Refused-At
returns-in-Err-Refused-At c = λ supply depth p s t h. runs_there c.args.place.now (Err (Refused (At c.in-Err-Refused-At.code c.in-Err-Refused-At.other))) (rw c.in-Err-Refused-At.field-0-0-is at (rw c.in-Err-Refused-At.field-0-is at (rw c.in-Err-Refused-At.is at h)))

pub returns-in-Err-Wants : goal.returns-in-Err-Wants
returns-in-Err-Wants c = λ supply depth p s t h.
    runs_there c.args.place.now (Err (Wants c.in-Err-Wants.name)) (rw c.in-Err-Wants.field-0-is at (rw c.in-Err-Wants.is at h))
