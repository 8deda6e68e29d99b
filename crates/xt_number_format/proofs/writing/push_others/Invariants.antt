use Rattle.std.proofs.Common.{◌≡◌, ◌++◌, drop}
use Rattle.spec_format.specs.Format.{others_written}
use Rattle.xt_number_format.proofs.writing.push_others.Given as goal

abbrev pub invariant-loop-place : goal.invariant-loop-place
invariant-loop-place l =
    l.text ++ others_written l.grouping l.format l.place (drop l.place l.others) ≡ l.fn.text ++ others_written l.grouping l.format 0 l.others
