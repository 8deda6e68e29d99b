use Rattle.std.proofs.Common.{◌∙◌, ◌∷◌, ap}
use Rattle.spec_run.specs.Meaning.{global_call}
use Rattle.xt_engine.specs.View.{call_of}
use Rattle.xt_driver.specs.declared.globals.Evaluation.{Evaluation}
use Rattle.xt_driver.proofs.globals.evaluation_of.Goals as goal

pub returns-clause-name : goal.returns-clause-name
returns-clause-name c = ap (λ (e : Evaluation). e.name) c.in_ok-new.ensures.ok ∙ c.in_ok-name.ensures

pub returns-clause-element : goal.returns-clause-element
returns-clause-element c = ap (λ (e : Evaluation). e.element) c.in_ok-new.ensures.ok

pub returns-clause-under_way : goal.returns-clause-under_way
returns-clause-under_way c =
    ap (λ (e : Evaluation). e.under_way.items) c.in_ok-new.ensures.ok ∙ c.in_ok-under_way.ensures ∙ ap (λ n. n ∷ c.args.globals.now.under_way.now) c.in_ok-copied.ensures

pub returns-clause-call : goal.returns-clause-call
returns-clause-call c =
    ap (λ (e : Evaluation). call_of e.call) c.in_ok-new.ensures.ok ∙ c.global_call-call.ensures
    ∙ ap (global_call c.args.globals.now.root c.args.element) c.in_ok-place.ensures
