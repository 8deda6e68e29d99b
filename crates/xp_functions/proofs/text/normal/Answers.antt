use Rattle.std.proofs.Common.{ap, ◌∙◌}
use Rattle.spec_expression.specs.Strings.{normalized}
use Rattle.spec_meaning.specs.Value.{Text}
use Rattle.xt_questions.proofs.Steps.{runs_gives}
use Rattle.xp_functions.proofs.text.normal.Goals as goal

pub returns : goal.returns
returns c supply depth s = runs_gives (ap Text (c.in_ok-normal.ensures {u = tt} ∙ ap normalized c.as_str.ensures.characters))
