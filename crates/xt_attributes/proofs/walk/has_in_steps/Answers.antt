use Rattle.std.proofs.Common.{List, map, refl, arith, rules}
use Rattle.std.specs.List.{list_any}
use Rattle.spec_compile.specs.Walk.{has_one}
use Rattle.xt_syntax.specs.PartView.{pattern_step_of}
use Rattle.xt_syntax.specs.declared.expr.Step.{fold_out-Step}
use Rattle.xt_syntax.specs.declared.pattern.PatternStep.{PatternStep}
use Rattle.xt_attributes.specs.Sought.{sought_in}
use Rattle.xt_attributes.proofs.Searching.{found_sought, next_sought}
use Rattle.xt_attributes.proofs.walk.has_in_steps.Goals as goal

pub loop-step-preserved : goal.loop-step-preserved
loop-step-preserved c =
    next_sought (λ (ss : List PatternStep). list_any (λ s. has_one (sought_in c.args.sought) s.step.predicates) (map pattern_step_of ss))
    (λ s. has_one (sought_in c.args.sought) (pattern_step_of s).step.predicates) c.args.steps.now c.loop-step.step-index c.step-item.result (λ left. refl) (omega arith)
    c.step-item.is (search (rules, fold_out-Step)) c.loop-step.invariant

pub returns-then-has_one : goal.returns-then-has_one
returns-then-has_one c =
    found_sought (λ (ss : List PatternStep). list_any (λ s. has_one (sought_in c.args.sought) s.step.predicates) (map pattern_step_of ss))
    (λ s. has_one (sought_in c.args.sought) (pattern_step_of s).step.predicates) c.args.steps.now c.loop-step.step-index c.step-item.result (λ left. refl) (omega arith)
    c.step-item.is (search (rules, fold_out-Step)) c.loop-step.invariant
