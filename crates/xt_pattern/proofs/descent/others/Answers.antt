use Rattle.std.proofs.lemmas.List.{map-append}
use Rattle.spec_expression.specs.declared.Operator.TheVariants.{Union}
use Rattle.spec_expression.specs.Token.{Binary}
use Rattle.xp_parse.specs.Reading.{IsNext}
use Rattle.xp_parse.proofs.Lists.{grow_none, grow, failed, behind_fail, behind_read}
use Rattle.xp_parse.proofs.Places.{at_nothing, at_continues}
use Rattle.xp_parse.proofs.Calls.{exits, found}
use Rattle.xt_pattern.proofs.Alternatives.{other_more, other_fail, others_end}
use Rattle.xt_pattern.proofs.descent.others.Goals as goal

pub loop-at-init : goal.loop-at-init
loop-at-init c = record { so_far = grow_none _ _ _ _; within = c.requires }

pub returns-in_err-alternative-clause-answer : goal.returns-in_err-alternative-clause-answer
returns-in_err-alternative-clause-answer c =
    let n : IsNext c.args.parser.now c.loop-at.at (Binary Union) = c.loop-at-test.ensures in
    let g = c.loop-at.invariant.so_far in
    exits _ c.from_residual.ensures.1 c.in_err-alternative.ensures.answer (λ f. behind_fail _ (failed _ _ _ _ _ g.so_far (at_nothing n (other_fail f))))

pub loop-at-preserved : goal.loop-at-preserved
loop-at-preserved c =
    let n : IsNext c.args.parser.now c.loop-at.at (Binary Union) = c.loop-at-test.ensures in
    let g = c.loop-at.invariant.so_far in
    record {
      so_far = rw (c.in_ok-push.ensures.items, map-append) (grow _ g (other_more c.in_ok-alternative.ensures.answer.answer (at_continues n g.so_far)));
      within = c.in_ok-alternative.ensures.within;
    }

pub returns-clause-answer : goal.returns-clause-answer
returns-clause-answer c =
    let g = c.loop-at.invariant.so_far in
    found g.whole (behind_read _ (others_end c.loop-at-test.ensures g.so_far))
