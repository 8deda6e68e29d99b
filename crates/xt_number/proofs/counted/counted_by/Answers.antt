use Rattle.std.proofs.Common.{refl}
use Rattle.spec_meaning.specs.Question.{Name}
use Rattle.spec_meaning.specs.Program.{Give}
use Rattle.spec_transform.specs.Numbering.{CalledAs}
use Rattle.xt_questions.proofs.Steps.{runs_gives}
use Rattle.xt_match.proofs.Together.{asks}
use Rattle.xt_number.proofs.counted.counted_by.Goals as goal

pub returns-in-Some-clause-runs : goal.returns-in-Some-clause-runs
returns-in-Some-clause-runs g c supply depth context = rw c.in-Some.is (runs_gives refl)

pub returns-in_ok-answer-in-None-clause-runs : goal.returns-in_ok-answer-in-None-clause-runs
returns-in_ok-answer-in-None-clause-runs g c supply depth context =
    rw c.in-None.is (asks (Name c.args.focus.node) (λ a. Give (CalledAs a)) (c.in_ok-answer-in-None.ensures {u = tt}).answer (c.in_ok-answer-in-None.ensures {u = tt}).asked (runs_gives refl))
