use Rattle.xt_questions.proofs.Steps.{runs_then, runs_stop, exits}
use Rattle.xt_avt.proofs.expansion.text_of.Goals as goal

pub returns-in_err-value-in-Expr-clause-runs : goal.returns-in_err-value-in-Expr-clause-runs
returns-in_err-value-in-Expr-clause-runs g c =
    rw c.in-Expr.is (exits _ c.from_residual-in_err-value-in-Expr.ensures.1 (runs_stop _ c.in_err-value-in-Expr.ensures.runs))

pub returns-in_ok-value-in-Expr-clause-runs : goal.returns-in_ok-value-in-Expr-clause-runs
returns-in_ok-value-in-Expr-clause-runs g c = rw c.in-Expr.is (runs_then _ c.in_ok-value-in-Expr.ensures.runs (c.to_text.ensures.runs _ _))
