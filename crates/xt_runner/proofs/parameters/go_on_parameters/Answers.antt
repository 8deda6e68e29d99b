use Rattle.std.proofs.Common.{ap, sym, length, arith}
use Rattle.xt_frames.specs.declared.frame.Frame.TheVariants as frames
use Rattle.xt_frames.specs.Left.{left_in}
use Rattle.xt_frames.proofs.Lefts.{if_ok}
use Rattle.xt_frames.proofs.Frames.{performs_steps}
use Rattle.xt_runner.proofs.Passed.{steps_as, parameters_none, parameters_next}
use Rattle.xt_runner.proofs.parameters.go_on_parameters.Goals as goal

pub returns-then-left-list-clause-does : goal.returns-then-left-list-clause-does
returns-then-left-list-clause-does g c =
    let p = c.args.left in
    let e = ap length (rw (c.deref.ensures, c.in_ok-bindings.ensures) at c.as_slice-list.ensures.value) in
    if_ok c.go_on_body.result c.go_on_body.ensures.does (λ next h. steps_as (sym (parameters_none p (left_in c.args.run.now) (omega (arith, e)))) h)

pub returns-clause-does : goal.returns-clause-does
returns-clause-does g c =
    let p = c.args.left in
    let e = ap length (rw (c.deref.ensures, c.in_ok-bindings.ensures) at c.as_slice-list.ensures.value) in
    if_ok c.go_on_parameter.result c.go_on_parameter.ensures.does (λ next h.
    performs_steps _ (frames.Parameters p) _ c.args.run.now c.go_on_parameter.new.run next (parameters_next p c.index-list-left.result (left_in c.args.run.now) (rw (c.as_slice-list.ensures.value, c.deref.ensures, c.in_ok-bindings.ensures) at c.index-list-left.is) (omega (arith, e))) h)
