use Rattle.std.proofs.Common.{ap}
use Rattle.spec_document.specs.declared.axis.Axis.TheVariants as axis
use Rattle.spec_expression.specs.Syntax.{Test}
use Rattle.spec_meaning.specs.Question.{Step, nodes_in}
use Rattle.spec_meaning.specs.Program.{Ask, Give}
use Rattle.xp_functions.proofs.Within.{runs_as}
use Rattle.xp_functions.proofs.language.lang_attributes.Goals as goal

pub returns-clause-runs : goal.returns-clause-runs
returns-clause-runs g c supply depth = runs_as (ap (λ (t : Test). Ask (Step c.args.element axis.Attribute t) (λ a. Give (nodes_in a))) (c.in_ok-test.ensures {u = tt})) (c.ask_nodes.ensures.runs supply depth)
