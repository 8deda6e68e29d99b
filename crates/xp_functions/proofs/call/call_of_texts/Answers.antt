use Rattle.std.proofs.Common.{ap, ◌∙◌, List, ℕ, refl}
use Rattle.spec_meaning.specs.Call.{of_texts}
use Rattle.xt_questions.proofs.Steps.{runs_then, runs_stop, runs_gives, runs_memory, exits}
use Rattle.xp_functions.proofs.call.call_of_texts.Goals as goal

pub returns-in_err-texts-clause-runs : goal.returns-in_err-texts-clause-runs
returns-in_err-texts-clause-runs g c supply depth = exits _ c.from_residual.ensures.1 (runs_stop _ (c.in_err-texts.ensures.runs supply depth))

pub returns-in_err-value-clause-runs : goal.returns-in_err-value-clause-runs
returns-in_err-value-clause-runs g c supply depth = exits _ c.from_residual-in_err-value.ensures.1 (runs_then _ (c.in_ok-texts.ensures.runs supply depth) (runs_memory refl refl))

pub returns-clause-runs : goal.returns-clause-runs
returns-clause-runs g c supply depth = runs_then _ (c.in_ok-texts.ensures.runs supply depth) (runs_gives (c.in_ok-value.ensures {u = tt} ∙ ap (λ (l : List (List ℕ)). of_texts c.args.function l) c.as_slice.ensures.value))
