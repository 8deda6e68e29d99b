use Rattle.std.proofs.Common.{◌∙◌, ap}
use Rattle.std.specs.Result.{is_err}
use Rattle.spec_meaning.specs.Function.{function_of}
use Rattle.xt_attributes.proofs.Counts.{no_function}
use Rattle.xt_attributes.proofs.walk.is_unknown.Goals as goal

pub returns : goal.returns
returns c = c.is_err.ensures.value ∙ ap is_err c.find.ensures ∙ no_function (function_of c.args.name.now c.args.arguments)
