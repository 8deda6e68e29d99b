use Rattle.std.proofs.Common.{◌≡◌, ◌≤◌, ◌+◌, drop, length, map}
use Rattle.spec_document.specs.Forest.{labels}
use Rattle.spec_document.specs.Fault.{least}
use Rattle.spec_document.specs.Top.{kept}
use Rattle.spec_document.specs.Numbering.{number_faults}
use Rattle.xt_build.specs.Least.{merged}
use Rattle.xt_build.specs.Piece.{open_in, forest_in}
use Rattle.xt_build.specs.View.{found_of, pieces_of}
use Rattle.xt_build.proofs.Counting.{lines_at}
use Rattle.xt_build.proofs.numbers.check_numbers.Given as goal

abbrev pub invariant-loop-piece : goal.invariant-loop-piece
invariant-loop-piece l = record {
  counted : l.level ≤ l.piece-index;
  within : length (open_in (pieces_of (drop l.piece-index l.pieces))) ≤ l.level + 1;
  found : merged (found_of l.found) (least (number_faults l.next (lines_at l.others l.level (open_in (pieces_of (drop l.piece-index l.pieces))))))
      ≡ merged (found_of l.fn.found) (least (number_faults l.fn.first (map (λ l. l.first) (labels (kept l.others (forest_in (pieces_of l.pieces)))))));
}
