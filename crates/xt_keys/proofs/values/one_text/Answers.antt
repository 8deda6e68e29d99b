use Rattle.std.proofs.Common.{refl, ap, ◌∙◌, ◌++◌, ◌∷◌, []}
use Rattle.xt_questions.proofs.Steps.{runs_then, runs_stop, runs_gives, runs_memory, exits}
use Rattle.xt_keys.proofs.values.one_text.Goals as goal

pub returns-in_err-text-clause-runs : goal.returns-in_err-text-clause-runs
returns-in_err-text-clause-runs g c supply depth = exits _ c.from_residual.ensures.1 (runs_stop _ (c.in_err-text.ensures.runs supply depth))

pub returns-in_err-push-clause-runs : goal.returns-in_err-push-clause-runs
returns-in_err-push-clause-runs g c supply depth = runs_then _ (c.in_ok-text.ensures.runs supply depth) (exits _ c.from_residual-in_err-push.ensures.1 (runs_memory refl refl))

pub returns-clause-runs : goal.returns-clause-runs
returns-clause-runs g c supply depth = runs_then _ (c.in_ok-text.ensures.runs supply depth) (runs_gives (c.in_ok-push.ensures.items ∙ ap (λ l. l ++ c.in_ok-text.text ∷ []) c.new-texts.ensures.items))
