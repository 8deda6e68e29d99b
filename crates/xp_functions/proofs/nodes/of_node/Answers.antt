use Rattle.std.proofs.Common.{ap}
use Rattle.spec_meaning.specs.Question.{Question}
use Rattle.spec_meaning.specs.Value.{Text}
use Rattle.spec_meaning.specs.Program.{Ask, Give}
use Rattle.xp_functions.specs.Part.{told_by}
use Rattle.xt_questions.specs.View.{question_of}
use Rattle.spec_node.specs.declared.node_ref.NodeRef.{NodeRef}
use Rattle.xt_questions.proofs.Steps.{runs_gives}
use Rattle.xp_functions.proofs.Within.{runs_as, asks}
use Rattle.xp_functions.proofs.nodes.of_node.Goals as goal

pub returns-clause-runs : goal.returns-clause-runs
returns-clause-runs g c supply depth =
    runs_as (ap (λ (q : Question NodeRef). Ask q (λ a. Give (Text (told_by c.args.part a)))) c.asked_by-question.ensures)
    (asks (question_of c.asked_by-question.result) (λ a. Give (Text (told_by c.args.part a))) (c.in_ok-answer.ensures {u = tt}).answer (c.in_ok-answer.ensures {u = tt}).asked (runs_gives (ap Text (c.in_ok-text.ensures {u = tt}))))
