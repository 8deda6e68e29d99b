use Rattle.std.proofs.Common.{sym, ap}
use Rattle.xt_questions.specs.View.{bindings_of}
use Rattle.xt_frames.specs.View.{start_planned}
use Rattle.xt_frames.proofs.Lefts.{if_ok}
use Rattle.xt_frames.proofs.Frames.{does_steps}
use Rattle.xt_runner.proofs.Passed.{steps_as}
use Rattle.xt_runner.proofs.start.go_on_start.Goals as goal

pub returns-in-Unit-clause-does : goal.returns-in-Unit-clause-does
returns-in-Unit-clause-does g c =
    let truth = (g.W.World.state c.args.world.now).truth in
    let whole = ap (λ t. start_planned t c.args.node (bindings_of c.args.parameters)) c.in-Unit.is in
    if_ok c.begin_unit.result c.begin_unit.ensures.does (λ next h. steps_as (sym whole) (does_steps truth _ _ c.args.run.now c.begin_unit.new.run next h))

pub returns-in-BuiltIn-clause-does : goal.returns-in-BuiltIn-clause-does
returns-in-BuiltIn-clause-does g c =
    let truth = (g.W.World.state c.args.world.now).truth in
    let whole = ap (λ t. start_planned t c.args.node (bindings_of c.args.parameters)) c.in-BuiltIn.is in
    if_ok c.begin_built_in.result c.begin_built_in.ensures.does (λ next h. steps_as (sym whole) (does_steps truth _ _ c.args.run.now c.begin_built_in.new.run next h))
