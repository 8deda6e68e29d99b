use Rattle.std.proofs.Common.{ap}
use Rattle.spec_meaning.specs.Value.{Boolean}
use Rattle.spec_meaning.specs.Call.{name_meant}
use Rattle.xt_questions.proofs.Steps.{runs_then, runs_stop, runs_gives, exits}
use Rattle.xp_functions.proofs.Within.{runs_as}
use Rattle.xp_functions.proofs.text.has_function.Goals as goal

pub returns-in_err-name : goal.returns-in_err-name
returns-in_err-name c supply depth s = exits _ c.from_residual.ensures.1 (runs_stop _ (runs_as (ap (name_meant c.args.scope.now) c.as_str.ensures.characters) (c.in_err-name.ensures supply depth s)))

pub returns : goal.returns
returns c supply depth s = runs_then _ (runs_as (ap (name_meant c.args.scope.now) c.as_str.ensures.characters) (c.in_ok-name.ensures supply depth s)) (runs_gives (ap Boolean c.is_function.ensures))
