use Rattle.std.proofs.Common.{ap, ◌∙◌, refl}
use Rattle.spec_expression.specs.Strings.{length_of}
use Rattle.spec_meaning.specs.Convert.{given}
use Rattle.xt_questions.proofs.Steps.{runs_then, runs_stop, runs_gives, exits}
use Rattle.xp_functions.proofs.Within.{runs_as, gives_is}
use Rattle.xp_functions.proofs.text.string_length.Goals as goal

pub returns-in_err-number : goal.returns-in_err-number
returns-in_err-number c supply depth s =
    let e = gives_is c.length.result _ c.length.ensures ∙ ap length_of c.as_str.ensures.characters in
    exits _ c.from_residual.ensures.1 (runs_stop _ (runs_as (ap given e) (c.in_err-number.ensures supply depth s)))

pub returns : goal.returns
returns c supply depth s =
    let e = gives_is c.length.result _ c.length.ensures ∙ ap length_of c.as_str.ensures.characters in
    runs_then _ (runs_as (ap given e) (c.in_ok-number.ensures supply depth s)) (runs_gives refl)
