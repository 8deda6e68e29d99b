use Rattle.std.proofs.Common.{refl}
use Rattle.xt_questions.proofs.Steps.{runs_gives}
use Rattle.xt_match.proofs.Tables.{rule_found, rule_missing}
use Rattle.xt_match.proofs.choice.is_one_chosen.Goals as goal

pub returns-in-None-clause-runs : goal.returns-in-None-clause-runs
returns-in-None-clause-runs g c = rw (rule_missing c.args.rules.now c.args.number c.in-None.ensures.lookup.3) (runs_gives refl)

pub returns-in-Some-clause-runs : goal.returns-in-Some-clause-runs
returns-in-Some-clause-runs g c =
    rw (rule_found c.args.rules.now c.args.number c.in-Some.rule.now c.in-Some.ensures.lookup.3.0 c.in-Some.ensures.lookup.1) c.is_chosen.ensures.runs
