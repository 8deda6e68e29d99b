use Rattle.std.proofs.Common.{◌≤◌, length, map, ◌-◌}
use Rattle.spec_static.specs.PatternGrammar.{ReadsOthers}
use Rattle.xt_syntax.specs.PartView.{alternative_of}
use Rattle.xp_parse.specs.Reading.{left}
use Rattle.xp_parse.proofs.Lists.{Growing}
use Rattle.xt_pattern.proofs.descent.others.Given as goal

abbrev pub invariant-loop-at : goal.invariant-loop-at
invariant-loop-at l = record {
  so_far : Growing (ReadsOthers l.parser.scope.now) 8 (left l.parser l.initial.at) (map alternative_of l.initial.alternatives.items)
      (map alternative_of l.alternatives.items) (left l.parser l.at);
  within : l.at ≤ length l.parser.tokens.now;
}

abbrev pub decreases-loop-at : goal.decreases-loop-at
decreases-loop-at l = length l.parser.tokens.now - l.at
