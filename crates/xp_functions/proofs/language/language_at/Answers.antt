use Rattle.std.proofs.Common.{ap, ◌∙◌, ℕ, List}
use Rattle.std.specs.Str.{chars}
use Rattle.spec_expression.specs.Strings.{is_language}
use Rattle.spec_meaning.specs.Value.{Boolean}
use Rattle.xt_questions.proofs.Steps.{runs_then, runs_stop, runs_gives, exits}
use Rattle.xp_functions.proofs.language.language_at.Goals as goal

pub returns-in_err-text-clause-runs : goal.returns-in_err-text-clause-runs
returns-in_err-text-clause-runs g c supply depth = exits _ c.from_residual.ensures.1 (runs_stop _ (c.in_err-text.ensures.runs supply depth))

pub returns-clause-runs : goal.returns-clause-runs
returns-clause-runs g c supply depth =
    let e = c.lang_matches.ensures ∙ ap (λ (l : List ℕ). is_language l (chars c.as_str-2.result.now)) c.as_str.ensures.characters ∙ ap (is_language c.in_ok-text.text) c.as_str-2.ensures.characters in
    runs_then _ (c.in_ok-text.ensures.runs supply depth) (runs_gives (ap Boolean e))
