use Rattle.std.proofs.Common.{◌≡◌}
use Rattle.xt_compile.proofs.Alternatives.{rules_with}
use Rattle.xt_compile.proofs.rules.add_alternatives.Given as goal

abbrev pub invariant-loop-alternative : goal.invariant-loop-alternative
invariant-loop-alternative l =
    rules_with l.fn.common l.rules.items l.alternative-iterator.rest.items ≡ rules_with l.fn.common l.fn.rules.items l.fn.alternatives.items
