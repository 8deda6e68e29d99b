use Rattle.std.proofs.Common.{List, map, refl, arith, rules}
use Rattle.std.specs.List.{flat_map}
use Rattle.spec_transform.specs.Numbering.{names_in_all}
use Rattle.xt_syntax.specs.PartView.{pattern_step_of}
use Rattle.xt_syntax.specs.declared.expr.Step.{fold_out-Step}
use Rattle.xt_syntax.specs.declared.pattern.PatternStep.{PatternStep}
use Rattle.xt_lift.proofs.Next.{next_added}
use Rattle.xt_lift.proofs.expressions.add_in_pattern_steps.Goals as goal

pub loop-step-preserved : goal.loop-step-preserved
loop-step-preserved c =
    next_added (λ (ss : List PatternStep). flat_map (λ s. names_in_all s.step.predicates) (map pattern_step_of ss)) (λ s. names_in_all (pattern_step_of s).step.predicates)
    c.args.steps.now c.loop-step.step-index c.step-item.result c.loop-step.into.items c.add_in_all.new.into.items (λ left. refl) (omega arith) c.step-item.is
    (search (rules, fold_out-Step)) c.loop-step.invariant
