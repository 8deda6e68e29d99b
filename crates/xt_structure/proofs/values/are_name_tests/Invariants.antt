use Rattle.std.proofs.Common.{◌≡◌, drop}
use Rattle.std.specs.List.{list_all}
use Rattle.spec_structure.specs.Structure.{is_name_test}
use Rattle.xt_structure.proofs.values.are_name_tests.Given as goal

abbrev pub invariant-loop-word : goal.invariant-loop-word
invariant-loop-word l = list_all is_name_test (drop l.word-index l.words) ≡ list_all is_name_test l.words
