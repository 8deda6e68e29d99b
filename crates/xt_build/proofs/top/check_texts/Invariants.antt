use Rattle.std.proofs.Common.{◌≡◌, ◌≤◌, ◌+◌, drop, length}
use Rattle.spec_document.specs.Fault.{least}
use Rattle.spec_document.specs.Top.{text_faults}
use Rattle.xt_build.specs.Least.{merged}
use Rattle.xt_build.specs.Piece.{open_in, forest_in}
use Rattle.xt_build.specs.View.{found_of, pieces_of}
use Rattle.xt_build.proofs.Levels.{at_level}
use Rattle.xt_build.proofs.top.check_texts.Given as goal

abbrev pub invariant-loop-piece : goal.invariant-loop-piece
invariant-loop-piece l = record {
  counted : l.level ≤ l.piece-index;
  within : length (open_in (pieces_of (drop l.piece-index l.pieces))) ≤ l.level + 1;
  found : merged (found_of l.found) (least (text_faults (at_level l.level (open_in (pieces_of (drop l.piece-index l.pieces))))))
      ≡ merged (found_of l.fn.found) (least (text_faults (forest_in (pieces_of l.pieces))));
}
