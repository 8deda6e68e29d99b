use Rattle.spec_meaning.specs.Question.{Name}
use Rattle.spec_meaning.specs.Program.{Give}
use Rattle.spec_transform.specs.Numbering.{called_alike}
use Rattle.xt_questions.specs.View.{answer_of}
use Rattle.xt_questions.proofs.Steps.{runs_gives}
use Rattle.xt_match.proofs.Together.{asks}
use Rattle.xt_number.proofs.counted.is_called.Goals as goal

pub returns-clause-runs : goal.returns-clause-runs
returns-clause-runs g c supply depth =
    asks (Name c.args.node) (λ a. Give (called_alike (answer_of c.args.called.now) a)) (c.in_ok-answer.ensures {u = tt}).answer (c.in_ok-answer.ensures {u = tt}).asked
    (runs_gives c.called_alike-alike.ensures)
