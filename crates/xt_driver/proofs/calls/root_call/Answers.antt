use Rattle.std.proofs.Common.{◌≡◌, ◌∙◌, [], ap, rules, None, Some}
use Rattle.spec_meaning.specs.Question.{rule_in}
use Rattle.spec_run.specs.Content.{target_by, ruling_by}
use Rattle.xt_questions.specs.declared.context.Bindings as bindings
use Rattle.xt_questions.specs.View.{bindings_of}
use Rattle.xt_driver.proofs.calls.root_call.Goals as goal

pub returns-clause-call : goal.returns-clause-call
returns-clause-call g c =
    let rule = c.into_rule-rule.ensures ∙ ap rule_in c.in_ok-answer.ensures.answer in
    let none : bindings_of bindings.Empty ≡ [] = search (rules, bindings.the_lemmas) in
    λ i. record { target = (c.target.ensures ∙ ap (target_by None) rule) i; node = c.args.root; parameters = none i; position = Some 1; size = Some 1; ruling = (c.ruling.ensures ∙ ap (ruling_by None) rule) i; by = c.nowhere.ensures i }
