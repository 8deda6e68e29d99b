use Rattle.xt_tree.specs.ValueView.{value_of}
use Rattle.xt_frames.specs.declared.frame.Frame.TheVariants as frames
use Rattle.xt_frames.specs.Left.{left_in}
use Rattle.xt_frames.proofs.Lefts.{if_ok}
use Rattle.xt_frames.proofs.Performs.{does_performs}
use Rattle.xt_runner.proofs.Passed.{performs_as, parameter_passed, parameter_not_passed}
use Rattle.xt_runner.proofs.parameters.go_on_parameter.Goals as goal

pub returns-in-Some-clause-does : goal.returns-in-Some-clause-does
returns-in-Some-clause-does g c =
    let truth = (g.W.World.state c.args.world.now).truth in
    let r = c.args.run.now in
    let p = c.args.left in
    let x = c.args.binding.now in
    if_ok c.go_on_given.result c.go_on_given.ensures (λ next h.
    performs_as (parameter_passed x p (value_of c.in-Some.value) (left_in r) (rw c.in-Some.is at c.in-Ok.ensures))
    (does_performs truth _ (frames.Parameters p) r c.go_on_given.new.run next (h truth)))

pub returns-in-None-clause-does : goal.returns-in-None-clause-does
returns-in-None-clause-does g c =
    if_ok c.go_on_default.result c.go_on_default.ensures.does (λ next h.
    performs_as (parameter_not_passed c.args.binding.now c.args.left (left_in c.args.run.now) (rw c.in-None.is at c.in-Ok.ensures)) h)
