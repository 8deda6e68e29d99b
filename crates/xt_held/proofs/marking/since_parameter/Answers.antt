use Rattle.std.proofs.Common.{ap, ◌∙◌}
use Rattle.std.proofs.lemmas.Result.{IfOk-weaker}
use Rattle.spec_touch.specs.Marks.{ParameterGiven}
use Rattle.xt_touch.specs.View.{remembered, since_of}
use Rattle.xt_held.proofs.Marked.{value_stays}
use Rattle.xt_held.proofs.Told.{value_told}
use Rattle.xt_held.proofs.marking.since_parameter.Goals as goal

pub returns-clause-spared : goal.returns-clause-spared
returns-clause-spared c = λ known parameters value source.
    IfOk-weaker c.and.result _ _ (λ next is.
    value_stays c.what_need_not_be_asked_keeps_its_answers.ensures c.args.name.now known parameters value source
    (since_of c.args.since.now) (since_of next)
    (is ∙ ap (λ name. remembered (since_of c.args.since.now) (ParameterGiven name)) c.in_ok-name.ensures)) c.and.ensures

pub returns-clause-told : goal.returns-clause-told
returns-clause-told c = λ records marks h.
    IfOk-weaker c.and.result _ _ (λ next is.
    value_told records marks c.args.name.now (since_of c.args.since.now) (since_of next)
    (is ∙ ap (λ name. remembered (since_of c.args.since.now) (ParameterGiven name)) c.in_ok-name.ensures) h) c.and.ensures
