use Rattle.std.proofs.Common.{◌≡◌, drop, bytes_eq}
use Rattle.std.specs.List.{list_any}
use Rattle.std.specs.Str.{chars}
use Rattle.xt_structure.specs.View.{words_of}
use Rattle.xt_structure.proofs.text.is_one_of.Given as goal

abbrev pub invariant-loop-word : goal.invariant-loop-word
invariant-loop-word l = list_any (bytes_eq (chars l.text)) (words_of (drop l.word-index l.words)) ≡ list_any (bytes_eq (chars l.text)) (words_of l.words)
