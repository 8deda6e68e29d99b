use Rattle.std.proofs.Common.{◌≡◌, drop, map}
use Rattle.spec_compile.specs.Value.{each, test_of}
use Rattle.xt_syntax.specs.View as view
use Rattle.xt_attributes.specs.Gathering.{appended, gathered_in, seen}
use Rattle.xt_attributes.proofs.names.tests_of.Given as goal

abbrev pub invariant-loop-word : goal.invariant-loop-word
invariant-loop-word l =
    appended (seen (λ tests. map view.test_of tests) (gathered_in l.tests)) (each (test_of l.scope) (drop l.word-index l.words)) ≡ each (test_of l.scope) l.words
