use Rattle.std.proofs.Common.{refl, reverse}
use Rattle.spec_meaning.specs.Question.{Order, nodes_in}
use Rattle.spec_meaning.specs.Program.{Give}
use Rattle.xt_questions.proofs.Steps.{runs_then, runs_stop, runs_gives, exits}
use Rattle.xt_match.proofs.Together.{runs_as, ask_then}
use Rattle.xt_number.proofs.nodes.nearest_first.Goals as goal

pub returns-in-None-clause-runs : goal.returns-in-None-clause-runs
returns-in-None-clause-runs g c supply depth = rw c.in-None.is (runs_gives refl)

pub returns-in_err-ordered-in-Some-clause-runs : goal.returns-in_err-ordered-in-Some-clause-runs
returns-in_err-ordered-in-Some-clause-runs g c supply depth =
    let program = ask_then (Order c.args.nodes.items) nodes_in (λ ns. Give (reverse ns)) in
    rw c.in-Some.is (exits _ c.from_residual.ensures.1 (runs_as program (runs_stop _ (c.in_err-ordered-in-Some.ensures.runs supply depth))))

pub returns-in_ok-ordered-in-Some-clause-runs : goal.returns-in_ok-ordered-in-Some-clause-runs
returns-in_ok-ordered-in-Some-clause-runs g c supply depth =
    let program = ask_then (Order c.args.nodes.items) nodes_in (λ ns. Give (reverse ns)) in
    rw c.in-Some.is (runs_as program (runs_then _ (c.in_ok-ordered-in-Some.ensures.runs supply depth) (runs_gives c.reverse.ensures.items)))
