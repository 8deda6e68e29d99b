use Rattle.std.proofs.Common.{List, ℕ, ap}
use Rattle.spec_document.specs.Name.{qname_of}
use Rattle.spec_run.specs.Names.{attribute_called}
use Rattle.xt_questions.proofs.Steps.{exits}
use Rattle.xt_avt.proofs.Joining.{runs_as}
use Rattle.xt_made_names.proofs.Called.{runs_failed}
use Rattle.xt_made_names.proofs.attribute.attribute_called.Goals as goal

pub returns-in_err-uri : goal.returns-in_err-uri
returns-in_err-uri c supply depth s =
    exits _ c.from_residual.ensures.1 (runs_failed (runs_as (ap (λ (name : List ℕ). attribute_called c.args.scope.now name (qname_of name) c.args.told) c.as_str.ensures.characters)
    (c.in_err-uri.ensures supply depth s)))
