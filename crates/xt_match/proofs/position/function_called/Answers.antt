use Rattle.std.proofs.Common.{sym, ap, ◌∙◌, length}
use Rattle.spec_meaning.specs.Function.{function_of}
use Rattle.xt_match.proofs.Forms.{count_is, function_found, no_function}
use Rattle.xt_match.proofs.position.function_called.Goals as goal

pub returns-in-Ok : goal.returns-in-Ok
returns-in-Ok c = sym (function_found (sym c.find.ensures ∙ c.in-Ok.is)) ∙ ap (function_of c.args.name.now) (count_is c.args.arguments.now)

pub returns-in-Err : goal.returns-in-Err
returns-in-Err c = sym (no_function (sym c.find.ensures ∙ c.in-Err.is)) ∙ ap (function_of c.args.name.now) (count_is c.args.arguments.now)
