use Rattle.std.proofs.Common.{◌≡◌, refl, ◌∙◌}
use Rattle.std.proofs.lemmas.Result.{IfOk-weaker}
use Rattle.xt_syntax.specs.SheetView.{rules_of}
use Rattle.xt_questions.specs.View.{answer_of, question_of}
use Rattle.xt_questions.specs.declared.answer.Answer.{Answer}
use Rattle.xt_world.specs.ParameterView.{parameters_of}
use Rattle.xt_world.specs.SourceView.{source_of}
use Rattle.xt_world.specs.View.{truth_with}
use Rattle.xt_world.proofs.Answering.{others_so}
use Rattle.xt_world.proofs.world.answer.Goals as goal

pub returns-in-Choice-clause-answer : goal.returns-in-Choice-clause-answer
returns-in-Choice-clause-answer c = rw c.in-Choice.is c.chosen.ensures.answer

pub returns-in_default : goal.returns-in_default
returns-in_default c =
    let source = source_of c.args.source.now in
    let rules = (rules_of c.args.table.now.rules.now).rules in
    let q = question_of c.args.question.now in
    let truth = truth_with source rules c.args.stylesheet.now (parameters_of c.args.parameters.now) c.args.document.now q in
    let so = others_so source rules c.args.stylesheet.now (parameters_of c.args.parameters.now) c.args.document.now c.args.question.now
    c.in_default.not-Choice c.in_default.not-Copy c.in_default.not-Unit c.in_default.not-External in
    record {
      answer = IfOk-weaker c.of_source.result (λ (a : Answer). answer_of a ≡ source q) (λ (a : Answer). answer_of a ≡ truth) (λ a e. e ∙ so)
          c.of_source.ensures.answer;
      same = c.of_source.ensures.same;
      rules = refl;
    }
