use Rattle.std.proofs.Common.{ap}
use Rattle.spec_document.specs.Name.{Expanded}
use Rattle.spec_meaning.specs.Question.{Key}
use Rattle.spec_meaning.specs.Program.{Ask}
use Rattle.spec_meaning.specs.Call.{nodes_or_refused}
use Rattle.xp_functions.proofs.Within.{runs_as, asks}
use Rattle.xp_functions.proofs.key.nodes_of_key.Goals as goal

pub returns-clause-runs : goal.returns-clause-runs
returns-clause-runs g c supply depth =
    runs_as (ap (λ (n : Expanded). Ask (Key n c.args.text) nodes_or_refused) (c.in_ok-name.ensures {u = tt}))
    (asks (Key c.in_ok-name.name c.args.text) nodes_or_refused (c.in_ok-answer.ensures {u = tt}).answer (c.in_ok-answer.ensures {u = tt}).asked (c.nodes_or_refusal.ensures supply depth _))
