use Rattle.std.proofs.Common.{ap, ◌∙◌}
use Rattle.xt_syntax.specs.SheetView.{global_of}
use Rattle.xt_frames.specs.View.{here_of, global_left}
use Rattle.xt_frames.proofs.Lefts.{if_ok}
use Rattle.xt_runner.proofs.Starts.{asks_outside, asks_nobody}
use Rattle.xt_runner.proofs.Passed.{does_as}
use Rattle.xt_runner.proofs.start.begin_global.Goals as goal

pub returns-then-may_be_given-clause-does : goal.returns-then-may_be_given-clause-does
returns-then-may_be_given-clause-does g c =
    if_ok c.begin_parameter.result c.begin_parameter.ensures.does (λ next h. does_as (asks_outside (global_of c.args.global.now) (here_of c.args.here) _ c.may_be_given.ensures c.if-may_be_given.true) h)

pub returns-clause-does : goal.returns-clause-does
returns-clause-does g c =
    let truth = (g.W.World.state c.args.world.now).truth in
    let stands = ap (λ d. global_left d (here_of c.args.here)) c.requires.stands in
    let is = asks_nobody (global_of c.args.global.now) (here_of c.args.here) _ c.may_be_given.ensures c.if-may_be_given.false in
    if_ok c.begin_own.result c.begin_own.ensures (λ next h. does_as (stands ∙ is) (h truth))
