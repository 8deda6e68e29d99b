use Rattle.std.proofs.Common.{◌≡◌, ◌++◌, drop, map}
use Rattle.std.specs.List.{flat_map}
use Rattle.spec_transform.specs.Numbering.{names_in_all}
use Rattle.xt_syntax.specs.PartView.{pattern_step_of}
use Rattle.xt_lift.proofs.expressions.add_in_pattern_steps.Given as goal

abbrev pub invariant-loop-step : goal.invariant-loop-step
invariant-loop-step l = l.into.items ++ flat_map (λ s. names_in_all s.step.predicates) (map pattern_step_of (drop l.step-index l.steps)) ≡ l.fn.into.items ++ flat_map (λ s. names_in_all s.step.predicates) (map pattern_step_of l.steps)
