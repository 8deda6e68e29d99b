use Rattle.xt_syntax.specs.SheetView.{rules_of}
use Rattle.xt_world.specs.ParameterView.{parameters_of}
use Rattle.xt_world.specs.View.{truth_with}
use Rattle.xt_world.proofs.Holding.{always_err, always_ok, one_state}
use Rattle.xt_world.proofs.world.SheetWorldWorld.ask.Goals as goal

pub returns-clause-asked : goal.returns-clause-asked
returns-clause-asked c =
    let w = c.args.self.now in
    let source = c.answer.ensures.same in
    let rules = c.answer.ensures.rules in
    always_ok c.answer.result (one_state
    (λ i. truth_with (source i) (rules_of (rules i)).rules w.stylesheet.now (parameters_of w.parameters.now) w.document.now))

pub returns-clause-err : goal.returns-clause-err
returns-clause-err c =
    let w = c.args.self.now in
    let source = c.answer.ensures.same in
    let rules = c.answer.ensures.rules in
    always_err c.answer.result
    (λ i. truth_with (source i) (rules_of (rules i)).rules w.stylesheet.now (parameters_of w.parameters.now) w.document.now)
