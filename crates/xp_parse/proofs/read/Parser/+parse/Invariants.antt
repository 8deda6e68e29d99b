use Rattle.std.proofs.Common.{◌≡◌, ◌≤◌, ◌<◌, length, map, ◌+◌, ◌-◌, ◌*◌}
use Rattle.spec_expression.specs.Grammar.{Signs, ReadsLinks, ReadsMore, ReadsPredicates, ReadsSteps}
use Rattle.spec_expression.proofs.Rank.{rank}
use Rattle.xt_syntax.specs.View.{expr_of, step_of, link_of}
use Rattle.xp_parse.specs.Reading.{left}
use Rattle.xp_parse.proofs.Lists.{Continues, Growing}
use Rattle.xp_parse.proofs.read.Parser.+parse.Given as goal

-- what is left, and among calls at one place the production
abbrev pub decreases-expression : goal.decreases-expression
decreases-expression l = 64 * (length l.self.now.tokens.now - l.at.now) + (40 - 2 * rank l.level)

abbrev pub decreases-chain : goal.decreases-chain
decreases-chain l = 64 * (length l.self.now.tokens.now - l.at.now) + (39 - 2 * rank l.level)

abbrev pub decreases-unary : goal.decreases-unary
decreases-unary l = 64 * (length l.self.now.tokens.now - l.at.now) + 25

abbrev pub decreases-path : goal.decreases-path
decreases-path l = 64 * (length l.self.now.tokens.now - l.at.now) + 21

abbrev pub decreases-relative : goal.decreases-relative
decreases-relative l = 64 * (length l.self.now.tokens.now - l.at.now) + 20

abbrev pub decreases-filter : goal.decreases-filter
decreases-filter l = 64 * (length l.self.now.tokens.now - l.at.now) + 20

abbrev pub decreases-primary : goal.decreases-primary
decreases-primary l = 64 * (length l.self.now.tokens.now - l.at.now) + 19

abbrev pub decreases-steps : goal.decreases-steps
decreases-steps l = 64 * (length l.self.now.tokens.now - l.at.now) + 18

abbrev pub decreases-step : goal.decreases-step
decreases-step l = 64 * (length l.self.now.tokens.now - l.at.now) + 17

abbrev pub decreases-predicates : goal.decreases-predicates
decreases-predicates l = 64 * (length l.self.now.tokens.now - l.at.now) + 16

abbrev pub decreases-arguments : goal.decreases-arguments
decreases-arguments l = 64 * (length l.self.now.tokens.now - l.at.now) + 45

abbrev pub invariant-links-loop-operator : goal.invariant-links-loop-operator
invariant-links-loop-operator l = record {
  so_far : Continues (ReadsLinks l.self.scope.now l.level l.tighter) (rank l.level) (left l.self l.initial.at) (map link_of l.links.items) (left l.self l.at);
  later : l.fn.at ≤ l.at;
  within : l.at ≤ length l.self.tokens.now;
}

abbrev pub decreases-links-loop-operator : goal.decreases-links-loop-operator
decreases-links-loop-operator l = length l.self.tokens.now - l.at

abbrev pub invariant-unary-loop-at : goal.invariant-unary-loop-at
invariant-unary-loop-at l = record {
  so_far : Signs (left l.self l.initial.at) l.signs (left l.self l.at);
  sum : l.signs + l.fn.at ≡ l.at;
}

abbrev pub decreases-unary-loop-at : goal.decreases-unary-loop-at
decreases-unary-loop-at l = length l.self.tokens.now - l.at

abbrev pub invariant-arguments-loop-at : goal.invariant-arguments-loop-at
invariant-arguments-loop-at l = record {
  so_far : Growing (ReadsMore l.self.scope.now) 13 (left l.self l.initial.at) (map expr_of l.initial.arguments.items) (map expr_of l.arguments.items)
      (left l.self l.at);
  later : l.fn.at < l.at;
  within : l.at ≤ length l.self.tokens.now;
}

abbrev pub decreases-arguments-loop-at : goal.decreases-arguments-loop-at
decreases-arguments-loop-at l = length l.self.tokens.now - l.at

abbrev pub invariant-predicates-loop-at : goal.invariant-predicates-loop-at
invariant-predicates-loop-at l = record {
  so_far : Continues (ReadsPredicates l.self.scope.now) 10 (left l.self l.initial.at) (map expr_of l.predicates.items) (left l.self l.at);
  later : l.fn.at ≤ l.at;
  within : l.at ≤ length l.self.tokens.now;
}

abbrev pub decreases-predicates-loop-at : goal.decreases-predicates-loop-at
decreases-predicates-loop-at l = length l.self.tokens.now - l.at

abbrev pub invariant-steps-loop-at : goal.invariant-steps-loop-at
invariant-steps-loop-at l = record {
  so_far : Growing (ReadsSteps l.self.scope.now) 9 (left l.self l.initial.at) (map step_of l.initial.steps.items) (map step_of l.steps.items)
      (left l.self l.at);
  later : l.fn.at ≤ l.at;
  within : l.at ≤ length l.self.tokens.now;
}

abbrev pub decreases-steps-loop-at : goal.decreases-steps-loop-at
decreases-steps-loop-at l = length l.self.tokens.now - l.at

abbrev pub decreases-links : goal.decreases-links
decreases-links l = 64 * (length l.self.now.tokens.now - l.at.now) + 14
