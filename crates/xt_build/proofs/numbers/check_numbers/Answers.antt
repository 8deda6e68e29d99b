use Rattle.std.proofs.Common.{◌+◌, map, sym, ap, ◌∙◌, true≢false, arith}
use Rattle.spec_document.specs.Fault.{least}
use Rattle.spec_document.specs.Numbering.{number_faults}
use Rattle.xt_tree.specs.View.{content_of, written_of}
use Rattle.xt_build.specs.Least.{merged}
use Rattle.xt_build.specs.View.{found_of}
use Rattle.xt_build.proofs.Counting.{is_left_out, lines_at, lines-ends, lines-opens, lines-stands, lines-left_out, number-more, next-limit}
use Rattle.xt_build.proofs.Levels.{left, closes, opens, stands}
use Rattle.xt_build.proofs.numbers.check_numbers.Goals as goal
use Rattle.xt_build.proofs.numbers.check_numbers.Goals.{in-Ends, in-Begins+in-Element, then-not-is_dropped, else-not-is_dropped, in-Begins+in_default}

pub overflow_sub-level : goal.overflow_sub-level
overflow_sub-level c =
    (closes c.args.pieces.now c.loop-piece.piece-index c.piece-item.result c.loop-piece.level (omega arith) c.piece-item.is c.in-Ends.is
    c.loop-piece.invariant.within).some

pub loop-piece-preserved : goal.loop-piece-preserved
loop-piece-preserved c =
    let ps = c.args.pieces.now in
    let n = c.loop-piece.piece-index in
    let level = c.loop-piece.level in
    let others = c.args.others in
    let p = c.piece-item.result in
    let found = found_of c.loop-piece.found in
    let next = c.loop-piece.next in
    let within = c.loop-piece.invariant.within in
    let behind = left ps (n + 1) in
    elim c.match-piece.branch [
      | in-Ends w ↦
          let t = closes ps n p level (omega arith) c.piece-item.is w.in-Ends.is within in
          let same = ap (lines_at others level) t.stack ∙ lines-ends others level behind t.some in
          record {
            counted = omega arith;
            within = rw w.level-is t.within;
            found = rw (w.level-is, w.found-is, w.next-is, ← same) c.loop-piece.invariant.found;
          }
      | in-Begins+in-Element w ↦
          let attributes = map written_of w.in-Element.attributes.items in
          let t = opens ps n p level w.in-Begins.line w.in-Begins.attribute_lines w.in-Begins.content w.in-Element.name w.in-Element.attributes
          (omega arith) c.piece-item.is w.in-Begins.is w.in-Element.is within in
          let kept = w.is_dropped.ensures ∙ ap (λ k. is_left_out others level (content_of k)) w.in-Element.is in
          record {
            counted = omega arith;
            within = rw w.level-is t.within;
            found = elim w.if-not-is_dropped.branch [
              | then-not-is_dropped w' ↦
                  let more = ap (lines_at others level) t.stack ∙ lines-opens others level _ w.in-Element.name attributes behind in
                  rw (w.level-is, w.found-is, w.next-is, w'.found-is, w'.next-is, w'.check_number.ensures)
                  (number-more found next w'.saturating_add-next.result w.in-Begins.line (lines_at others (level + 1) behind)
                  (next-limit next _ w'.saturating_add-next.ensures)
                  ∙ sym (ap (λ lines. merged found (least (number_faults next lines))) more) ∙ c.loop-piece.invariant.found)
              | else-not-is_dropped w' ↦ absurd (true≢false (sym w'.if-not-is_dropped.false ∙ kept))
            ];
          }
      | in-Begins+in_default w ↦
          let content = content_of w.in-Begins.content in
          let t = stands ps n p level w.in-Begins.line w.in-Begins.attribute_lines w.in-Begins.content
          (omega arith) c.piece-item.is w.in-Begins.is w.in_default.not-Element within in
          record {
            counted = omega arith;
            within = rw w.level-is t.within;
            found = elim w.if-not-is_dropped.branch [
              | then-not-is_dropped w' ↦
                  let more = ap (lines_at others level) t.stack
                  ∙ lines-stands others level _ content behind (sym w.is_dropped.ensures ∙ w'.if-not-is_dropped.true) in
                  rw (w.level-is, w.found-is, w.next-is, w'.found-is, w'.next-is, w'.check_number.ensures)
                  (number-more found next w'.saturating_add-next.result w.in-Begins.line (lines_at others level behind)
                  (next-limit next _ w'.saturating_add-next.ensures)
                  ∙ sym (ap (λ lines. merged found (least (number_faults next lines))) more) ∙ c.loop-piece.invariant.found)
              | else-not-is_dropped w' ↦
                  let same = ap (lines_at others level) t.stack
                  ∙ lines-left_out others level _ content behind (sym w.is_dropped.ensures ∙ w'.if-not-is_dropped.false) in
                  rw (w.level-is, w.found-is, w.next-is, w'.found-is, w'.next-is, ← same) c.loop-piece.invariant.found
            ];
          }
    ]
