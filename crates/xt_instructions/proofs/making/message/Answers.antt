use Rattle.xt_frames.proofs.Lefts.{if_ok}
use Rattle.xt_instructions.proofs.making.message.Goals as goal

pub returns-then-terminates : goal.returns-then-terminates
returns-then-terminates c = if_ok c.last_message.result c.last_message.ensures (λ next h ask. rw c.if-terminates.true (h ask))

pub returns-else-terminates : goal.returns-else-terminates
returns-else-terminates c = if_ok c.collect.result c.collect.ensures (λ next h ask. rw c.if-terminates.false (h ask))
