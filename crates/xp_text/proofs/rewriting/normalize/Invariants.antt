use Rattle.std.proofs.Common.{◌≡◌, ◌==◌, ◌++◌, length, drop, not}
use Rattle.std.specs.Str.{chars}
use Rattle.spec_expression.specs.Strings.{normalized}
use Rattle.xp_text.proofs.Loops.{normal_rest}
use Rattle.xp_text.proofs.rewriting.normalize.Given as goal

abbrev pub invariant-loop-character : goal.invariant-loop-character
invariant-loop-character l =
    l.normal ++ normal_rest (not (length l.normal == 0)) l.is_apart (drop (length l.yielded) (chars l.text)) ≡ normalized (chars l.text)
