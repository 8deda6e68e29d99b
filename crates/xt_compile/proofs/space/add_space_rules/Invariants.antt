use Rattle.std.proofs.Common.{◌≡◌}
use Rattle.xt_compile.proofs.Tests.{tests_with}
use Rattle.xt_compile.proofs.space.add_space_rules.Given as goal

abbrev pub invariant-loop-test : goal.invariant-loop-test
invariant-loop-test l =
    tests_with l.fn.precedence l.fn.strips l.rules.items l.test-iterator.rest.items ≡ tests_with l.fn.precedence l.fn.strips l.fn.rules.items l.fn.tests.items
