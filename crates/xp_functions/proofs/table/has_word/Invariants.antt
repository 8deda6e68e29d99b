use Rattle.std.proofs.Common.{◌≡◌, drop, bytes_eq}
use Rattle.std.specs.List.{list_any}
use Rattle.xp_functions.specs.Found.{words_of}
use Rattle.xp_functions.proofs.table.has_word.Given as goal

abbrev pub invariant-loop-word : goal.invariant-loop-word
invariant-loop-word l = list_any (bytes_eq l.name) (words_of (drop l.word-index l.words)) ≡ list_any (bytes_eq l.name) (words_of l.words)
