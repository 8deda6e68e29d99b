use Rattle.std.proofs.Common.{◌≡◌, ◌++◌, length, drop}
use Rattle.std.specs.Str.{chars}
use Rattle.spec_expression.specs.Strings.{words}
use Rattle.xt_structure.proofs.WordLists.{words_after}
use Rattle.xt_structure.proofs.text.words.Given as goal

abbrev pub invariant-loop-character : goal.invariant-loop-character
invariant-loop-character l = l.list.items ++ words_after l.word (drop (length l.yielded) (chars l.text)) ≡ words (chars l.text)
