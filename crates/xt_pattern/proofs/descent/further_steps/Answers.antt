use Rattle.std.proofs.Common.{arith}
use Rattle.std.proofs.lemmas.List.{map-append}
use Rattle.xp_parse.specs.Reading.{IsNext}
use Rattle.xp_parse.proofs.Lists.{grow_none, grow, failed, behind_fail, behind_read}
use Rattle.xp_parse.proofs.Places.{at_nothing, at_continues}
use Rattle.xp_parse.proofs.Calls.{exits, found}
use Rattle.xt_pattern.specs.Reading.{token_of_separator}
use Rattle.xt_pattern.proofs.Steps.{further_more, further_fail, further_end}
use Rattle.xt_pattern.proofs.descent.further_steps.Goals as goal

pub loop-separator-init : goal.loop-separator-init
loop-separator-init c = record { so_far = grow_none _ _ _ _; later = omega arith; within = c.requires }

pub returns-in_err-step-clause-answer : goal.returns-in_err-step-clause-answer
returns-in_err-step-clause-answer c =
    let b = c.in-Some.separator in
    let n : IsNext c.args.parser.now c.loop-separator.at (token_of_separator b) = c.in-Some.ensures in
    let g = c.loop-separator.invariant.so_far in
    exits _ c.from_residual.ensures.1 c.in_err-step.ensures.answer (λ f. behind_fail _ (failed _ _ _ _ _ g.so_far (at_nothing n (further_fail b f))))

pub loop-separator-preserved : goal.loop-separator-preserved
loop-separator-preserved c =
    let b = c.in-Some.separator in
    let n : IsNext c.args.parser.now c.loop-separator.at (token_of_separator b) = c.in-Some.ensures in
    let g = c.loop-separator.invariant.so_far in
    record {
      so_far = rw (c.in_ok-push.ensures.items, map-append) (grow _ g (further_more b c.in_ok-step.ensures.answer.answer (at_continues n g.so_far)));
      later = omega (arith, c.loop-separator.invariant.later, c.in_ok-step.ensures.progress);
      within = c.in_ok-step.ensures.within;
    }

pub returns-clause-answer : goal.returns-clause-answer
returns-clause-answer c =
    let g = c.loop-separator.invariant.so_far in
    found g.whole (behind_read _ (further_end c.in_default.ensures g.so_far))
