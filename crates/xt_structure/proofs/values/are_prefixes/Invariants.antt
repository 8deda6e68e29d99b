use Rattle.std.proofs.Common.{◌≡◌, drop}
use Rattle.std.specs.List.{list_all}
use Rattle.spec_structure.specs.Structure.{is_prefix}
use Rattle.xt_structure.proofs.values.are_prefixes.Given as goal

abbrev pub invariant-loop-word : goal.invariant-loop-word
invariant-loop-word l = list_all is_prefix (drop l.word-index l.words) ≡ list_all is_prefix l.words
