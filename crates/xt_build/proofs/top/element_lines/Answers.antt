use Rattle.std.proofs.Common.{◌≡◌, ℕ, ◌+◌, ◌++◌, subst, append_assoc, arith}
use Rattle.spec_document.specs.Top.{elements_at_top}
use Rattle.xt_build.specs.Piece.{forest_in}
use Rattle.xt_build.specs.View.{pieces_of}
use Rattle.xt_build.proofs.Levels.{at_level, left, closes, opens, stands}
use Rattle.xt_build.proofs.AtTop.{elements-Stands}
use Rattle.xt_build.proofs.top.element_lines.Goals as goal
use Rattle.xt_build.proofs.top.element_lines.Goals.{in-Ends, in-Begins+in-Element, then-level-eq0+in_ok-push-in-Begins, else-level-eq0, in-Begins+in_default}

pub overflow_sub-level : goal.overflow_sub-level
overflow_sub-level c =
    (closes c.args.pieces.now c.loop-piece.piece-index c.piece-item.result c.loop-piece.level (omega arith) c.piece-item.is c.in-Ends.is
    c.loop-piece.invariant.within).some

pub loop-piece-preserved : goal.loop-piece-preserved
loop-piece-preserved c =
    let ps = c.args.pieces.now in
    let n = c.loop-piece.piece-index in
    let level = c.loop-piece.level in
    let found = c.loop-piece.lines.items in
    let behind = left ps (n + 1) in
    elim c.match-piece.branch [
      | in-Ends w ↦
          let t = closes ps n c.piece-item.result level (omega arith) c.piece-item.is w.in-Ends.is c.loop-piece.invariant.within in
          record {
            counted = omega arith;
            within = rw w.level-is t.within;
            found = rw (w.level-is, w.lines-is, ← t.below) c.loop-piece.invariant.found;
          }
      | in-Begins+in-Element w ↦
          let t = opens ps n c.piece-item.result level w.in-Begins.line w.in-Begins.attribute_lines w.in-Begins.content w.in-Element.name
          w.in-Element.attributes
          (omega arith) c.piece-item.is w.in-Begins.is w.in-Element.is c.loop-piece.invariant.within in
          record {
            counted = omega arith;
            within = rw w.level-is t.within;
            found =
                elim w.if-level-eq0.branch [
                  | then-level-eq0+in_ok-push-in-Begins w' ↦
                      let added = w'.in_ok-push-in-Begins.ensures {u = tt} in
                      let top : level ≡ 0 = w'.if-level-eq0.true in
                      let was = subst (λ (k : ℕ). found ++ elements_at_top (at_level k (left ps n)) ≡ elements_at_top (forest_in (pieces_of ps))) top
                      c.loop-piece.invariant.found in
                      rw (w.level-is, top, w.lines-is, w'.lines-is, added.items, append_assoc) (rw t.top at was)
                  | else-level-eq0 w' ↦ rw (w.level-is, w.lines-is, w'.lines-is, ← t.below (omega arith)) c.loop-piece.invariant.found
                ];
          }
      | in-Begins+in_default w ↦
          let t = stands ps n c.piece-item.result level w.in-Begins.line w.in-Begins.attribute_lines w.in-Begins.content
          (omega arith) c.piece-item.is w.in-Begins.is w.in_default.not-Element c.loop-piece.invariant.within in
          record {
            counted = omega arith;
            within = rw w.level-is t.within;
            found = rw (w.level-is, w.lines-is, ← elements-Stands ps n level _ w.in-Begins.content w.in_default.not-Element t)
                c.loop-piece.invariant.found;
          }
    ]
