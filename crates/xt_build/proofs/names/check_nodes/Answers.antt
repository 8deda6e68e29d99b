use Rattle.std.proofs.Common.{◌+◌, reverse, sym, ap, ◌∙◌, arith}
use Rattle.std.proofs.lemmas.List.{at_drop_all}
use Rattle.spec_document.specs.Fault.{least}
use Rattle.xt_build.specs.Least.{merged}
use Rattle.xt_build.specs.Left.{open_faults}
use Rattle.xt_build.specs.Piece.{open_in}
use Rattle.xt_build.specs.View.{found_of, pieces_of}
use Rattle.xt_build.proofs.Least.{merged-none}
use Rattle.xt_build.proofs.OpenFaults.{whole_faults}
use Rattle.xt_build.proofs.names.check_nodes.Goals as goal

pub returns : goal.returns
returns c =
    let pieces = c.args.pieces.now in
    let before = found_of c.args.found.now in
    let now = found_of c.loop-piece.found in
    let scope = c.args.scope.now in
    let depth = c.args.depth + 1 in
    let none = at_drop_all (λ ps. merged now (least (open_faults scope depth (reverse c.loop-piece.scopes.items) (open_in (pieces_of ps))))) pieces
    c.loop-piece.piece-index (omega arith) in
    sym (none ∙ merged-none now) ∙ c.loop-piece.invariant
    ∙ ap (λ fs. merged before (least fs)) (whole_faults scope depth (open_in (pieces_of pieces)) c.requires.0)
