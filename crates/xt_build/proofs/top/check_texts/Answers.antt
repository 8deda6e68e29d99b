use Rattle.std.proofs.Common.{◌≡◌, ℕ, ◌+◌, ◌≤◌, length, map, ap, ◌∙◌, subst, arith}
use Rattle.spec_document.specs.Fault.{least}
use Rattle.spec_document.specs.Balance.{LineNumbers}
use Rattle.spec_document.specs.Top.{text_faults}
use Rattle.xt_tree.specs.View.{written_of}
use Rattle.xt_tree.specs.declared.node.Content.TheVariants as held
use Rattle.xt_build.specs.declared.piece.Piece.TheVariants as code
use Rattle.xt_build.specs.Least.{merged}
use Rattle.xt_build.specs.Piece.{forest_in}
use Rattle.xt_build.specs.View.{found_of, pieces_of}
use Rattle.xt_build.proofs.Levels.{at_level, left, closes, opens, stands, text-other}
use Rattle.xt_build.proofs.AtTop.{texts-Opens, texts-Stands, others-Stands}
use Rattle.xt_build.proofs.top.check_texts.Goals as goal
use Rattle.xt_build.proofs.top.check_texts.Goals.{in-Ends, in-Begins+in-Element, in-Begins+in-Text+then-level-eq0, in-Begins+in-Text+else-level-eq0}
use Rattle.xt_build.proofs.top.check_texts.Goals.{in-Begins+in_default}

pub overflow_sub-level : goal.overflow_sub-level
overflow_sub-level c =
    (closes c.args.pieces.now c.loop-piece.piece-index c.piece-item.result c.loop-piece.level (omega arith) c.piece-item.is c.in-Ends.is
    c.loop-piece.invariant.within).some

pub loop-piece-preserved : goal.loop-piece-preserved
loop-piece-preserved c =
    let ps = c.args.pieces.now in
    let n = c.loop-piece.piece-index in
    let level = c.loop-piece.level in
    let p = c.piece-item.result in
    let found = found_of c.loop-piece.found in
    let within = c.loop-piece.invariant.within in
    elim c.match-piece.branch [
      | in-Ends w ↦
          let t = closes ps n p level (omega arith) c.piece-item.is w.in-Ends.is within in
          record {
            counted = omega arith;
            within = rw w.level-is t.within;
            found = rw (w.level-is, w.found-is, ← t.below) c.loop-piece.invariant.found;
          }
      | in-Begins+in-Element w ↦
          let t = opens ps n p level w.in-Begins.line w.in-Begins.attribute_lines w.in-Begins.content w.in-Element.name w.in-Element.attributes
          (omega arith) c.piece-item.is w.in-Begins.is w.in-Element.is within in
          record {
            counted = omega arith;
            within = rw w.level-is t.within;
            found = rw (w.level-is, w.found-is, ← texts-Opens ps n level _ w.in-Element.name (map written_of w.in-Element.attributes.items) t)
                c.loop-piece.invariant.found;
          }
      | in-Begins+in-Text+then-level-eq0 w ↦
          let top : level ≡ 0 = w.if-level-eq0.true in
          let l : LineNumbers = record { first = w.in-Begins.line; attributes = w.in-Begins.attribute_lines.items } in
          let text = w.in-Text.text in
          let t = stands ps n p 0 w.in-Begins.line w.in-Begins.attribute_lines (held.Text text) (omega arith) c.piece-item.is
          (w.in-Begins.is ∙ ap (code.Begins w.in-Begins.line w.in-Begins.attribute_lines) w.in-Text.is) (text-other text)
          (subst (λ (k : ℕ). length (left ps n) ≤ k + 1) top within) in
          record {
            counted = omega arith;
            within = rw (w.level-is, top) t.within;
            found = rw (w.level-is, top, w.found-is, w.check_text.ensures)
                (texts-Stands ps n l text found t
                ∙ subst (λ (k : ℕ). merged found (least (text_faults (at_level k (left ps n))))
                ≡ merged (found_of c.args.found.now) (least (text_faults (forest_in (pieces_of ps))))) top c.loop-piece.invariant.found);
          }
      | in-Begins+in-Text+else-level-eq0 w ↦
          let text = w.in-Text.text in
          let t = stands ps n p level w.in-Begins.line w.in-Begins.attribute_lines (held.Text text) (omega arith) c.piece-item.is
          (w.in-Begins.is ∙ ap (code.Begins w.in-Begins.line w.in-Begins.attribute_lines) w.in-Text.is) (text-other text) within in
          record {
            counted = omega arith;
            within = rw w.level-is t.within;
            found = rw (w.level-is, w.found-is, ← t.below (omega arith)) c.loop-piece.invariant.found;
          }
      | in-Begins+in_default w ↦
          let t = stands ps n p level w.in-Begins.line w.in-Begins.attribute_lines w.in-Begins.content
          (omega arith) c.piece-item.is w.in-Begins.is w.in_default.not-Element within in
          record {
            counted = omega arith;
            within = rw w.level-is t.within;
            found = rw (w.level-is, w.found-is, ← others-Stands ps n level _ w.in-Begins.content w.in_default.not-Text t) c.loop-piece.invariant.found;
          }
    ]
