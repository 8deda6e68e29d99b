use Rattle.std.proofs.Common.{length, drop}
use Rattle.std.specs.Str.{chars}
use Rattle.xt_number_format.proofs.Sizes.{Reading}
use Rattle.xt_number_format.proofs.groups.grouping_size.Given as goal

abbrev pub invariant-loop-character : goal.invariant-loop-character
invariant-loop-character l = Reading l.is_ended l.digits l.size (drop (length l.yielded) (chars l.text)) (chars l.text)
