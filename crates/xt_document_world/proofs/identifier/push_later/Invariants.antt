use Rattle.std.proofs.Common.{◌≡◌, ◌++◌, drop}
use Rattle.xt_document_world.specs.View.{later_text}
use Rattle.xt_document_world.proofs.identifier.push_later.Given as goal

-- what is written, and what is to be written of the rest, are all
abbrev pub invariant-loop-position : goal.invariant-loop-position
invariant-loop-position l = l.text ++ later_text (drop l.position-index l.positions) ≡ l.initial.text ++ later_text l.positions
