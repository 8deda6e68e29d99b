use Rattle.std.proofs.Common.{◌≡◌, map, length, Some}
use Rattle.spec_document.specs.Balance.{Rest, rest_of}
use Rattle.xt_build.specs.View.{located_of, pieces_of}
use Rattle.xt_build.proofs.Fronts.{Stands}
use Rattle.xt_build.proofs.piece.pieces.Given as goal

-- the pieces so far stand in front of what the other events say
abbrev pub invariant-loop-rest : goal.invariant-loop-rest
invariant-loop-rest l =
    (whole : Rest) → rest_of (map located_of l.events) ≡ Some whole → Stands (rest_of (map located_of l.rest)) (pieces_of l.pieces.items) whole

abbrev pub decreases-loop-rest : goal.decreases-loop-rest
decreases-loop-rest l = length l.rest
