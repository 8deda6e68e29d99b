use Rattle.std.proofs.Common.{◌≡◌, drop, map}
use Rattle.std.specs.List.{list_any}
use Rattle.spec_compile.specs.Walk.{has_one}
use Rattle.xt_attributes.specs.Sought.{sought_in}
use Rattle.xt_syntax.specs.PartView.{pattern_step_of}
use Rattle.xt_attributes.proofs.walk.has_in_steps.Given as goal

abbrev pub invariant-loop-step : goal.invariant-loop-step
invariant-loop-step l = list_any (λ s. has_one (sought_in l.sought) s.step.predicates) (map pattern_step_of (drop l.step-index l.steps)) ≡ list_any (λ s. has_one (sought_in l.sought) s.step.predicates) (map pattern_step_of l.steps)
