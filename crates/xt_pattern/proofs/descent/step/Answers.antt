use Rattle.std.proofs.Common.{refl, ap, sym, ◌∙◌}
use Rattle.spec_static.specs.PatternGrammar.{is_pattern_axis}
use Rattle.xp_parse.proofs.Calls.{exits, found, refused}
use Rattle.xt_pattern.proofs.Views.{axis-of}
use Rattle.xt_pattern.proofs.Steps.{step_read, step_fail, axis_fail}
use Rattle.xt_pattern.proofs.descent.step.Goals as goal

pub returns-in_err-step-clause-answer : goal.returns-in_err-step-clause-answer
returns-in_err-step-clause-answer c = exits _ c.from_residual.ensures.1 c.in_err-step.ensures.answer (λ n. step_fail n)

pub returns-then-not-is_pattern_axis-clause-answer : goal.returns-then-not-is_pattern_axis-clause-answer
returns-then-not-is_pattern_axis-clause-answer c =
    refused (axis_fail c.in_ok-step.ensures.answer.answer
    (ap is_pattern_axis (axis-of c.in_ok-step.step) ∙ sym c.is_pattern_axis.ensures ∙ c.if-not-is_pattern_axis.true))

pub returns-clause-answer : goal.returns-clause-answer
returns-clause-answer c =
    found refl (step_read c.in_ok-step.ensures.answer.answer
    (ap is_pattern_axis (axis-of c.in_ok-step.step) ∙ sym c.is_pattern_axis.ensures ∙ c.if-not-is_pattern_axis.false))
