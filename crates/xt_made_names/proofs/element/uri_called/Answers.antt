use Rattle.std.proofs.Common.{Option, ap}
use Rattle.std.specs.Str.{chars}
use Rattle.spec_document.specs.Name.{QName}
use Rattle.spec_run.specs.Names.{element_called}
use Rattle.xt_questions.proofs.Steps.{exits}
use Rattle.xt_avt.proofs.Joining.{runs_as}
use Rattle.xt_made_names.proofs.Called.{runs_failed}
use Rattle.xt_made_names.proofs.element.uri_called.Goals as goal

pub returns-in_err-uri-in-Some : goal.returns-in_err-uri-in-Some
returns-in_err-uri-in-Some c supply depth s =
    let name = chars c.args.name.now in
    exits _ c.from_residual.ensures.1 (runs_failed (runs_as (ap (λ (q : Option QName). element_called c.args.scope.now name q c.args.told) c.in-Some.ensures)
    (c.in_err-uri-in-Some.ensures name supply depth s)))
