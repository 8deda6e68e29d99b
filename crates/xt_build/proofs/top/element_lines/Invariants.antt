use Rattle.std.proofs.Common.{◌≡◌, ◌≤◌, ◌+◌, ◌++◌, drop, length}
use Rattle.spec_document.specs.Top.{elements_at_top}
use Rattle.xt_build.specs.Piece.{open_in, forest_in}
use Rattle.xt_build.specs.View.{pieces_of}
use Rattle.xt_build.proofs.Levels.{at_level}
use Rattle.xt_build.proofs.top.element_lines.Given as goal

abbrev pub invariant-loop-piece : goal.invariant-loop-piece
invariant-loop-piece l = record {
  counted : l.level ≤ l.piece-index;
  within : length (open_in (pieces_of (drop l.piece-index l.pieces))) ≤ l.level + 1;
  found : l.lines.items ++ elements_at_top (at_level l.level (open_in (pieces_of (drop l.piece-index l.pieces))))
      ≡ elements_at_top (forest_in (pieces_of l.pieces));
}
