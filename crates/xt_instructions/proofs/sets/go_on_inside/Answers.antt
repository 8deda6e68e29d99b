use Rattle.xt_frames.proofs.Lefts.{if_ok}
use Rattle.xt_instructions.proofs.Used.{steps_more}
use Rattle.xt_instructions.proofs.sets.go_on_inside.Goals as goal

pub returns : goal.returns
returns c = if_ok c.go_into.result c.go_into.ensures (λ next h ask. steps_more ask _ c.args.run.now c.go_into.new.run next (h ask))
