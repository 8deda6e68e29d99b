use Rattle.std.proofs.Common.{◌+◌, ◌<◌, None, Some, Ok, sym, ap, ◌∙◌, subst, arith}
use Rattle.spec_document.specs.Forest.{height, numbered, size}
use Rattle.spec_document.specs.Top.{without_texts}
use Rattle.spec_document.specs.Numbering.{number_limit}
use Rattle.spec_document.specs.Document.{document_by}
use Rattle.xt_build.specs.View.{found_of, pieces_of, fault_of}
use Rattle.xt_build.specs.Piece.{forest_in}
use Rattle.xt_build.proofs.Building.{document_made, document_has_room, answered, second_is_next, second_number, AreMade, are_made, size_numbered}
use Rattle.spec_edit.specs.Depth.{ElementsFit}
use Rattle.xt_build.proofs.Heights.{document-height, document-fits}
use Rattle.xt_build.proofs.document.document.Goals as goal
use Rattle.xt_build.proofs.document.document.Goals.{In_ok-built, In_default}

pub returns-in-Some-clause-answer : goal.returns-in-Some-clause-answer
returns-in-Some-clause-answer c =
    ap (λ ps. document_by c.args.scope.now c.args.first.number (forest_in (pieces_of ps))) (sym c.as_slice-whole.ensures.value)
    ∙ answered _ _ (found_of c.check_numbers.new.found) (Some (fault_of c.in-Some.fault))
    (document_made c.args.scope.now c.args.first.number c.saturating_add-second.result (forest_in (pieces_of c.as_slice-whole.result.now))
    (found_of c.check_top.new.found) (found_of c.check_nodes.new.found) (found_of c.check_number.new.found) (found_of c.check_numbers.new.found)
    (second_is_next _ _ c.saturating_add-second.ensures) c.in_ok-check_top.ensures c.in_ok-check_nodes.ensures c.check_number.ensures
    c.check_numbers.ensures)
    (ap found_of c.in-Some.is)

-- there is room for all numbers
room : (c : In_default) → c.args.first.number + size (without_texts (forest_in (pieces_of c.args.pieces.items))) < number_limit
room c =
    subst (λ ps. c.args.first.number + size (without_texts (forest_in (pieces_of ps))) < number_limit) c.as_slice-whole.ensures.value
    (document_has_room c.args.first.number c.saturating_add-second.result (found_of c.check_nodes.new.found) (found_of c.check_number.new.found)
    (found_of c.check_numbers.new.found)
    (without_texts (forest_in (pieces_of c.as_slice-whole.result.now))) (second_is_next _ _ c.saturating_add-second.ensures)
    c.check_number.ensures c.check_numbers.ensures (ap found_of c.in_default.is))

pub make_nodes-requires-clause-numbers : goal.make_nodes-requires-clause-numbers
make_nodes-requires-clause-numbers c =
    let fits = room c in
    let behind = second_number _ _ _ c.saturating_add-second.ensures fits in
    omega (arith, fits, behind)

made : (c : In_ok-built) → AreMade c.args.first.number (without_texts (forest_in (pieces_of c.args.pieces.items))) c.in_ok-built.built.nodes
made c = are_made _ _ _ _ c.saturating_add-second.ensures (room c.before.before.before) (c.in_ok-built.ensures {u = tt}).nodes

pub numbered-requires-clause-order : goal.numbered-requires-clause-order
numbered-requires-clause-order c = (made c.before).again

pub numbered-requires-clause-limit : goal.numbered-requires-clause-limit
numbered-requires-clause-limit c = (made c.before).fit

pub numbered-requires-clause-depth : goal.numbered-requires-clause-depth
numbered-requires-clause-depth c =
    let fits = document-height c.args.scope.now (c.args.first.number + 1) (pieces_of c.as_slice-whole.result.now) (found_of c.check_top.new.found)
    (found_of c.check_nodes.new.found)
    (found_of c.check_number.new.found) (found_of c.check_numbers.new.found) _ _ c.in_ok-check_nodes.ensures c.check_number.ensures c.check_numbers.ensures
    (ap found_of c.in_default.is) in
    let are = (made c.before).are in
    let same = ap (λ ps. height (numbered (c.args.first.number + 1) (without_texts (forest_in (pieces_of ps))))) c.as_slice-whole.ensures.value in
    let here = ap height are in
    omega (arith, fits, same, here)

pub numbered-requires-clause-fits : goal.numbered-requires-clause-fits
numbered-requires-clause-fits c =
    let fits = document-fits c.args.scope.now (c.args.first.number + 1) (pieces_of c.as_slice-whole.result.now) (found_of c.check_top.new.found)
    (found_of c.check_nodes.new.found)
    (found_of c.check_number.new.found) (found_of c.check_numbers.new.found) _ _ c.in_ok-check_nodes.ensures c.check_number.ensures c.check_numbers.ensures
    (ap found_of c.in_default.is) in
    subst (λ f. ElementsFit 1 f) (sym (made c.before).are)
    (subst (λ ps. ElementsFit 1 (numbered (c.args.first.number + 1) (without_texts (forest_in (pieces_of ps))))) c.as_slice-whole.ensures.value fits)

pub returns : goal.returns
returns c =
    let at = goal.at.returns c in
    let m = made at.In_ok-built in
    let f = without_texts (forest_in (pieces_of c.args.pieces.items)) in
    let doc = c.in_ok-document.ensures in
    let second = second_number _ _ _ c.saturating_add-second.ensures (room at.In_default) in
    let count = ap (λ d. size d.nodes) doc ∙ ap size m.are ∙ size_numbered (c.args.first.number + 1) f in
    record {
      answer = ap (λ ps. document_by c.args.scope.now c.args.first.number (forest_in (pieces_of ps))) (sym c.as_slice-whole.ensures.value)
          ∙ answered _ _ (found_of c.check_numbers.new.found) None
          (document_made c.args.scope.now c.args.first.number c.saturating_add-second.result (forest_in (pieces_of c.as_slice-whole.result.now))
          (found_of c.check_top.new.found) (found_of c.check_nodes.new.found) (found_of c.check_number.new.found) (found_of c.check_numbers.new.found)
          (second_is_next _ _ c.saturating_add-second.ensures) c.in_ok-check_top.ensures c.in_ok-check_nodes.ensures c.check_number.ensures
          c.check_numbers.ensures)
          (ap found_of c.in_default.is)
          ∙ ap (λ ps. Ok (record { root = c.args.first.number; nodes = numbered (c.args.first.number + 1) (without_texts (forest_in (pieces_of ps))) }))
          c.as_slice-whole.ensures.value
          ∙ ap (λ nodes. Ok (record { root = c.args.first.number; nodes = nodes })) (sym m.are) ∙ ap Ok (sym doc);
      next = (c.in_ok-built.ensures {u = tt}).next ∙ ap (λ n. n + size f) second ∙ ap (λ n. c.args.first.number + 1 + n) (sym count);
    }
