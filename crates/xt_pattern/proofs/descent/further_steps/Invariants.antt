use Rattle.std.proofs.Common.{◌≤◌, length, map, ◌-◌}
use Rattle.spec_static.specs.PatternGrammar.{ReadsFurtherSteps}
use Rattle.xt_syntax.specs.PartView.{pattern_step_of}
use Rattle.xp_parse.specs.Reading.{left}
use Rattle.xp_parse.proofs.Lists.{Growing}
use Rattle.xt_pattern.proofs.descent.further_steps.Given as goal

abbrev pub invariant-loop-separator : goal.invariant-loop-separator
invariant-loop-separator l = record {
  so_far : Growing (ReadsFurtherSteps l.parser.scope.now) 9 (left l.parser l.initial.at) (map pattern_step_of l.initial.steps.items)
      (map pattern_step_of l.steps.items) (left l.parser l.at);
  later : l.fn.at ≤ l.at;
  within : l.at ≤ length l.parser.tokens.now;
}

abbrev pub decreases-loop-separator : goal.decreases-loop-separator
decreases-loop-separator l = length l.parser.tokens.now - l.at
