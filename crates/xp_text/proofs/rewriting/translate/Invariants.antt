use Rattle.std.proofs.Common.{◌≡◌, ◌++◌, length, drop}
use Rattle.std.specs.Str.{chars}
use Rattle.spec_expression.specs.Strings.{translated}
use Rattle.xp_text.proofs.rewriting.translate.Given as goal

abbrev pub invariant-loop-character : goal.invariant-loop-character
invariant-loop-character l =
    l.translation ++ translated (drop (length l.yielded) (chars l.text)) (chars l.from) (chars l.to) ≡ translated (chars l.text) (chars l.from) (chars l.to)
