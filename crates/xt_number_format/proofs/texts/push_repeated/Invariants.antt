use Rattle.std.proofs.Common.{◌≡◌, ◌++◌, replicate}
use Rattle.xt_number_format.proofs.texts.push_repeated.Given as goal

abbrev pub invariant-loop : goal.invariant-loop
invariant-loop l = l.text ≡ l.fn.text ++ replicate l.counter l.character
