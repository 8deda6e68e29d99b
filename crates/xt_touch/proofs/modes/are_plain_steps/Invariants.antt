use Rattle.std.proofs.Common.{◌≡◌, drop, map}
use Rattle.std.specs.List.{list_all}
use Rattle.spec_touch.specs.Plain.{is_plain_step}
use Rattle.xt_syntax.specs.PartView.{pattern_step_of}
use Rattle.xt_touch.proofs.modes.are_plain_steps.Given as goal

abbrev pub invariant-loop-step : goal.invariant-loop-step
invariant-loop-step l =
    list_all is_plain_step (map pattern_step_of (drop l.step-index l.steps)) ≡ list_all is_plain_step (map pattern_step_of l.steps)
