use Rattle.std.proofs.Common.{◌≡◌, List, ap, ◌∙◌}
use Rattle.std.proofs.lemmas.Result.{IfOk-weaker}
use Rattle.xt_questions.specs.View.{answer_of}
use Rattle.xt_questions.specs.declared.answer.Answer.{Answer}
use Rattle.xt_match.specs.Context.{units_in}
use Rattle.xt_world.specs.KeyView.{answer_found, keyed_in}
use Rattle.xt_world.specs.SourceView.{source_in}
use Rattle.xt_world.specs.declared.found.FoundKeys.{FoundKeys}
use Rattle.xt_world.proofs.Holding.{more_held}
use Rattle.xt_world.proofs.source.keyed_first.Goals as goal

pub returns-in-Ok-clause-same : goal.returns-in-Ok-clause-same
returns-in-Ok-clause-same c =
    let s = c.args.stylesheet.now in
    let document = c.args.document.now in
    ap (λ (keys : List FoundKeys). source_in s document keys) c.in-Ok.ensures.ok
    ∙ more_held s document c.args.keys.now.items (record { name = c.args.name.now; found = c.in_ok-found.found })
    (λ text. c.in_ok-found.ensures text ∙ (λ i. keyed_in (units_in (c.as_slice.ensures.value i)) document c.args.name.now text))

pub returns-in-Ok-clause-answer : goal.returns-in-Ok-clause-answer
returns-in-Ok-clause-answer c =
    let units = units_in c.args.stylesheet.now.units.items in
    let document = c.args.document.now in
    let name = c.args.name.now in
    let text = c.args.text.now in
    IfOk-weaker c.answer_found-answer.result
    (λ (a : Answer). answer_of a ≡ answer_found c.in_ok-found.found text)
    (λ (a : Answer). answer_of a ≡ keyed_in units document name text)
    (λ a is. is ∙ c.in_ok-found.ensures text ∙ (λ i. keyed_in (units_in (c.as_slice.ensures.value i)) document name text))
    c.answer_found-answer.ensures

pub returns-in-Err-clause-same : goal.returns-in-Err-clause-same
returns-in-Err-clause-same c = ap (λ (keys : List FoundKeys). source_in c.args.stylesheet.now c.args.document.now keys) c.in-Err.ensures.err
