use Rattle.std.proofs.Common.{◌≡◌, length, drop}
use Rattle.std.specs.Str.{chars}
use Rattle.spec_format.specs.Format.{is_decimal}
use Rattle.xt_number_format.proofs.Written.{ends}
use Rattle.xt_number_format.proofs.writing.is_decimal.Given as goal

abbrev pub invariant-loop-character : goal.invariant-loop-character
invariant-loop-character l = ends l.is_ended (drop (length l.yielded) (chars l.token)) ≡ is_decimal (chars l.token)
