use Rattle.std.proofs.Common.{List, [], ◌∷◌, ◌++◌, sym, ap, ◌∙◌, subst}
use Rattle.spec_meaning.specs.Question.{Question}
use Rattle.spec_node.specs.declared.node_ref.NodeRef.{NodeRef}
use Rattle.xt_questions.specs.View.{question_of}
use Rattle.xt_questions.specs.declared.question.Question.{Question as CodeQuestion}
use Rattle.xt_spared.specs.View.{questions_of}
use Rattle.xt_own.specs.Keys.{AgreeOn}
use Rattle.xt_own.proofs.Reading.{parts, questions_and}
use Rattle.xt_own.proofs.asked.add.Goals as goal

pub returns-then-is_known : goal.returns-then-is_known
returns-then-is_known c = λ other was h. (
  h,
  c.is_known.ensures c.if-is_known.true other was
      (subst (λ (qs : List CodeQuestion). AgreeOn other was (questions_of qs)) (sym c.as_slice.ensures.value) h),
)

pub returns : goal.returns
returns c = λ other was h.
    let old = c.args.questions.now.items in
    parts other was (questions_of old) (question_of c.args.question.now)
    (subst (λ (qs : List (Question NodeRef)). AgreeOn other was qs)
    (ap questions_of c.in_ok-push.ensures.items ∙ questions_and old _ ∙ ap (λ (q : Question NodeRef). questions_of old ++ q ∷ []) c.in_ok-copy.ensures) h)
