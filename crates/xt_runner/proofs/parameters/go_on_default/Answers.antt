use Rattle.xt_frames.specs.Left.{left_in}
use Rattle.xt_frames.specs.View.{here_of}
use Rattle.xt_frames.proofs.Lefts.{if_ok}
use Rattle.xt_runner.proofs.Passed.{performs_as, parameter_default}
use Rattle.xt_runner.proofs.parameters.go_on_default.Goals as goal

pub returns-clause-does : goal.returns-clause-does
returns-clause-does g c =
    if_ok c.hold.result c.hold.ensures.does (λ next h.
    performs_as (parameter_default c.args.binding.now c.args.left c.in-Ok-parameter_holder.holder (here_of c.in-Ok.here) (left_in c.args.run.now) c.in-Ok.ensures.here c.in-Ok-parameter_holder.ensures) h)
