use Rattle.std.proofs.Common.{refl}
use Rattle.spec_meaning.specs.Question.{Name}
use Rattle.spec_meaning.specs.Program.{Give}
use Rattle.xt_questions.proofs.Steps.{runs_gives}
use Rattle.xt_match.proofs.Together.{asks}
use Rattle.xt_match.proofs.pattern.ask_called.Goals as goal

pub returns-clause-runs : goal.returns-clause-runs
returns-clause-runs g c supply depth =
    asks (Name c.args.node) (λ a. Give a) (c.in_ok-answer.ensures {u = tt}).answer (c.in_ok-answer.ensures {u = tt}).asked (runs_gives refl)
