use Rattle.std.proofs.Common.{◌+◌, ◌<◌, ◌^◌, None, Some, Ok, sym, ap, ◌∙◌, subst}
use Rattle.spec_document.specs.Forest.{numbered, size}
use Rattle.spec_document.specs.Top.{kept}
use Rattle.spec_document.specs.Document.{nodes_by}
use Rattle.xt_build.specs.View.{found_of, pieces_of, fault_of}
use Rattle.xt_build.specs.Piece.{forest_in}
use Rattle.xt_build.proofs.Building.{nodes_by-below, nodes_made, nodes_have_room, answered, size_numbered}
use Rattle.xt_build.proofs.document.siblings.Goals as goal

pub returns-in-Some-clause-answer : goal.returns-in-Some-clause-answer
returns-in-Some-clause-answer c =
    let f = forest_in (pieces_of c.as_slice-whole.result.now) in
    ap (λ ps. nodes_by c.args.scope.now c.args.first c.args.parent (forest_in (pieces_of ps))) (sym c.as_slice-whole.ensures.value)
    ∙ nodes_by-below c.args.scope.now c.args.first c.args.parent c.depth_of.result c.elements_beside-elements.result f c.depth_of.ensures
    c.elements_beside-elements.ensures
    ∙ answered _ _ (found_of c.check_numbers.new.found) (Some (fault_of c.in-Some.fault))
    (nodes_made c.args.scope.now c.args.first c.depth_of.result c.elements_beside-elements.result f
    (found_of c.check_top.new.found) (found_of c.check_nodes.new.found) (found_of c.check_numbers.new.found)
    c.in_ok-check_top.ensures c.in_ok-check_nodes.ensures c.check_numbers.ensures)
    (ap found_of c.in-Some.is)

pub make_nodes-requires-clause-numbers : goal.make_nodes-requires-clause-numbers
make_nodes-requires-clause-numbers c =
    let others = c.elements_beside-elements.result in
    subst (λ ps. c.args.first + size (kept others (forest_in (pieces_of ps))) < 2 ^ 64) c.as_slice-whole.ensures.value
    (nodes_have_room c.args.first (found_of c.check_nodes.new.found) (kept others (forest_in (pieces_of c.as_slice-whole.result.now))) c.ranges.first.fits
    (sym c.check_numbers.ensures ∙ ap found_of c.in_default.is))

pub returns : goal.returns
returns c =
    let others = c.elements_beside-elements.result in
    let f = forest_in (pieces_of c.as_slice-whole.result.now) in
    let made = c.in_ok-make_nodes.ensures {u = tt} in
    record {
      answer = ap (λ ps. nodes_by c.args.scope.now c.args.first c.args.parent (forest_in (pieces_of ps))) (sym c.as_slice-whole.ensures.value)
          ∙ nodes_by-below c.args.scope.now c.args.first c.args.parent c.depth_of.result others f c.depth_of.ensures c.elements_beside-elements.ensures
          ∙ answered _ _ (found_of c.check_numbers.new.found) None
          (nodes_made c.args.scope.now c.args.first c.depth_of.result others f
          (found_of c.check_top.new.found) (found_of c.check_nodes.new.found) (found_of c.check_numbers.new.found)
          c.in_ok-check_top.ensures c.in_ok-check_nodes.ensures c.check_numbers.ensures)
          (ap found_of c.in_default.is)
          ∙ ap (λ ps. Ok (numbered c.args.first (kept others (forest_in (pieces_of ps))))) c.as_slice-whole.ensures.value ∙ ap Ok (sym made.nodes);
      next = made.next ∙ ap (λ n. c.args.first + n)
          (sym (ap size made.nodes ∙ size_numbered c.args.first (kept others (forest_in (pieces_of c.args.pieces.items)))));
    }
