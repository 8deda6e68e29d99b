use Rattle.std.proofs.Common.{ap, ◌∙◌}
use Rattle.spec_expression.specs.Number.{number_of}
use Rattle.spec_meaning.specs.Convert.{given}
use Rattle.xt_questions.proofs.Steps.{runs_then, runs_stop, exits}
use Rattle.xp_functions.proofs.Within.{runs_as, gives_is}
use Rattle.xp_functions.proofs.nodes.plus_node.Goals as goal

pub returns-in_err-text-clause-runs : goal.returns-in_err-text-clause-runs
returns-in_err-text-clause-runs g c supply depth = exits _ c.from_residual.ensures.1 (runs_stop _ (c.in_err-text.ensures.runs supply depth))

pub returns-in_err-number-clause-runs : goal.returns-in_err-number-clause-runs
returns-in_err-number-clause-runs g c supply depth =
    let e = gives_is c.read.result _ c.read.ensures ∙ ap number_of c.as_str.ensures.characters in
    exits _ c.from_residual-in_err-number.ensures.1 (runs_then _ (c.in_ok-text.ensures.runs supply depth) (runs_stop _ (runs_as (ap given e) (c.in_err-number.ensures supply depth _))))

pub returns-clause-runs : goal.returns-clause-runs
returns-clause-runs g c supply depth =
    let e = gives_is c.read.result _ c.read.ensures ∙ ap number_of c.as_str.ensures.characters in
    runs_then _ (c.in_ok-text.ensures.runs supply depth) (runs_then _ (runs_as (ap given e) (c.in_ok-number.ensures supply depth _)) (runs_as (ap given (gives_is c.add.result _ c.add.ensures)) (c.given-2.ensures supply depth _)))
