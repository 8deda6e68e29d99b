use Rattle.xt_questions.proofs.Steps.{runs_then, runs_stop, runs_gives, exits}
use Rattle.xt_match.specs.Context.{at}
use Rattle.xt_keys.proofs.values.values_at.Goals as goal

pub returns-in_err-matches-clause-runs : goal.returns-in_err-matches-clause-runs
returns-in_err-matches-clause-runs g c =
    exits _ c.from_residual-in_err-matches.ensures.1
    (runs_stop _ (rw (c.in_ok-context.ensures.pattern, c.in_ok-context.ensures.depth) at (c.in_err-matches.ensures.runs (at c.args.node))))

pub returns-then-matches-clause-runs : goal.returns-then-matches-clause-runs
returns-then-matches-clause-runs g c =
    let ended = c.refused_there.ensures _ _ _ _ _ c.used-ended.ensures.runs in
    runs_then _ (rw (c.in_ok-context.ensures.pattern, c.in_ok-context.ensures.depth) at (c.in_ok-matches.ensures.runs (at c.args.node)))
    (rw c.if-matches.true (rw (c.in_ok-context.ensures.value, c.in_ok-context.ensures.depth) at ended))

pub returns-clause-runs : goal.returns-clause-runs
returns-clause-runs g c =
    runs_then _ (rw (c.in_ok-context.ensures.pattern, c.in_ok-context.ensures.depth) at (c.in_ok-matches.ensures.runs (at c.args.node)))
    (rw c.if-matches.false (runs_gives c.new.ensures.items))
