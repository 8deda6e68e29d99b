use Rattle.std.proofs.Common.{◌∙◌, ap}
use Rattle.std.specs.Option.{option_and_then}
use Rattle.std.specs.Str.{chars}
use Rattle.spec_compile.specs.Unit.{AnOutput, method_in}
use Rattle.xt_top_level.proofs.declaration.output.Goals as goal

pub returns : goal.returns
unfolding chars
returns c = ap AnOutput (c.into_method.ensures ∙ ap (option_and_then method_in) c.take.ensures.taken)
