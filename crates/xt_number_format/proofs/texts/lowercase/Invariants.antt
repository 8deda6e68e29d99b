use Rattle.std.proofs.Common.{◌≡◌, map}
use Rattle.std.specs.Char.{to_ascii_lowercase}
use Rattle.xt_number_format.proofs.texts.lowercase.Given as goal

abbrev pub invariant-loop-character : goal.invariant-loop-character
invariant-loop-character l = l.lowercase ≡ map to_ascii_lowercase l.yielded
