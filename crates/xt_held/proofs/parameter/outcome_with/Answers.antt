use Rattle.std.proofs.Common.{subst, sym}
use Rattle.std.specs.Prelude.{IfSome}
use Rattle.std.specs.Option.{option_copied}
use Rattle.spec_run.specs.Documents.{Parameters, main_name}
use Rattle.spec_run.specs.Outcome.{Comes}
use Rattle.xt_touch.specs.View.{since_of}
use Rattle.xt_held.specs.OutcomeView.{outcome_of, plain_in}
use Rattle.xt_held.specs.RunView.{KeptHolds, KeptSpared}
use Rattle.xt_held.specs.Complete.{KeepsWhere}
use Rattle.xt_held.specs.Cost.{CostsRun}
use Rattle.xt_held.proofs.parameter.outcome_with.Goals as goal

pub returns-clause-outcome : goal.returns-clause-outcome
returns-clause-outcome c = λ modules are.
    subst (λ (parameters : Parameters). Comes modules parameters (modules main_name) (plain_in c.args.source) (outcome_of c.in_ok-came.came.outcome))
    c.in_ok-before.ensures.given (c.in_ok-came.ensures.outcome modules are)

pub outcome_of-came-requires : goal.outcome_of-came-requires
outcome_of-came-requires c =
    subst (λ (parameters : Parameters). KeptSpared (option_copied c.args.compiled) parameters (option_copied c.args.source) c.args.last.now (since_of c.args.since))
    (sym c.in_ok-before.ensures.given) c.requires

pub returns-clause-last : goal.returns-clause-last
returns-clause-last c =
    subst (λ (parameters : Parameters). IfSome c.in_ok-came.came.kept (KeptHolds (option_copied c.args.compiled) parameters (option_copied c.args.source)))
    c.in_ok-before.ensures.given c.in_ok-came.ensures.last

pub returns-clause-cost : goal.returns-clause-cost
returns-clause-cost c =
    subst (λ (parameters : Parameters). CostsRun (option_copied c.args.compiled) parameters (option_copied c.args.source) c.args.last.now.records
    c.in_ok-came.came.counts) c.in_ok-before.ensures.given c.in_ok-came.ensures.cost

pub returns-clause-keeps : goal.returns-clause-keeps
returns-clause-keeps c =
    subst (λ (parameters : Parameters). KeepsWhere (option_copied c.args.compiled) parameters (option_copied c.args.source) c.in_ok-came.came.kept)
    c.in_ok-before.ensures.given c.in_ok-came.ensures.keeps
