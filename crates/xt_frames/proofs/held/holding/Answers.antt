use Rattle.xt_frames.proofs.Lefts.{if_ok}
use Rattle.xt_frames.proofs.held.holding.Goals as goal

pub returns-in-Variable : goal.returns-in-Variable
returns-in-Variable c = if_ok c.with_variable.result c.with_variable.ensures (λ f h after. rw c.in-Variable.is (h after))

pub returns-in-Argument : goal.returns-in-Argument
returns-in-Argument c = if_ok c.with_argument.result c.with_argument.ensures (λ f h after. rw c.in-Argument.is (h after))

pub returns-in-Parameter : goal.returns-in-Parameter
returns-in-Parameter c = if_ok c.with_parameter.result c.with_parameter.ensures (λ f h after. rw c.in-Parameter.is (h after))
