use Rattle.std.proofs.Common.{refl, sym, ◌∙◌}
use Rattle.xt_questions.proofs.Steps.{runs_gives}
use Rattle.xt_match.specs.Context.{at}
use Rattle.xt_match.proofs.choice.is_chosen.Goals as goal

pub returns-in_ok-context-clause-runs : goal.returns-in_ok-context-clause-runs
returns-in_ok-context-clause-runs g c =
    rw (sym c.may_be_chosen.ensures ∙ c.if-may_be_chosen.true) (rw c.as_slice-alternatives.ensures.value at (rw (c.in_ok-context.ensures.same, c.in_ok-context.ensures.depth) at (c.matches_one-matches.ensures.runs (at c.args.node))))

pub returns-else-may_be_chosen-clause-runs : goal.returns-else-may_be_chosen-clause-runs
returns-else-may_be_chosen-clause-runs g c = rw (sym c.may_be_chosen.ensures ∙ c.if-may_be_chosen.false) (runs_gives refl)
