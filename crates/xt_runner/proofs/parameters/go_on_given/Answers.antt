use Rattle.xt_frames.proofs.Lefts.{if_ok}
use Rattle.xt_runner.proofs.parameters.go_on_given.Goals as goal

pub returns : goal.returns
returns c = if_ok c.hold_value.result c.hold_value.ensures (λ next h ask. rw c.in_ok-name.ensures at h ask)
