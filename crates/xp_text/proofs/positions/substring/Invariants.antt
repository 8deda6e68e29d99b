use Rattle.std.proofs.Common.{◌≡◌, ◌++◌, ◌+◌, length, drop}
use Rattle.std.specs.Str.{chars}
use Rattle.spec_expression.specs.Strings.{substring, is_selected}
use Rattle.xp_text.proofs.Loops.{selected}
use Rattle.xp_text.proofs.positions.substring.Given as goal

abbrev pub invariant-loop-character : goal.invariant-loop-character
invariant-loop-character l =
    record {
      counted : l.passed
          ≡ length l.yielded;
      so_far : l.part ++ selected (is_selected l.start l.count) (l.passed + 1) (drop l.passed (chars l.text))
          ≡ substring (chars l.text) l.start l.count;
    }
