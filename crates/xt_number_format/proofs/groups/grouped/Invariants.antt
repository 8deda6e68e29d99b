use Rattle.std.proofs.Common.{length, drop}
use Rattle.std.specs.Str.{chars}
use Rattle.xt_number_format.proofs.Grouped.{Grouping}
use Rattle.xt_number_format.proofs.groups.grouped.Given as goal

abbrev pub invariant-loop-digit : goal.invariant-loop-digit
invariant-loop-digit l = Grouping l.grouping l.text l.behind (drop (length l.yielded) (chars l.digits)) (chars l.digits)
