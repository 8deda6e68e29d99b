use Rattle.std.proofs.Common.{[], map, sym, ap, ◌∙◌}
use Rattle.std.proofs.lemmas.Result.{on_ok_weaker}
use Rattle.spec_document.specs.Fault.{least, fault_if}
use Rattle.spec_document.specs.NodeFaults.{attribute_faults, content_faults}
use Rattle.xt_tree.specs.View.{content_of, written_of}
use Rattle.xt_build.specs.Least.{merged}
use Rattle.xt_build.specs.View.{found_of}
use Rattle.xt_build.proofs.Attributes.{kept_three}
use Rattle.xt_build.proofs.names.check_content.Goals as goal

pub returns-in-Element : goal.returns-in-Element
returns-in-Element c =
    let inside = c.args.inside.now in
    let lines = c.args.attribute_lines.now in
    let found = found_of c.args.found.now in
    let second = found_of c.keep_if-in-Element.new.found in
    on_ok_weaker c.check_attributes.result (λ own.
    kept_three found (found_of c.keep_if.new.found) second (found_of c.check_attributes.new.found) _ _ _
    (c.keep_if.ensures ∙ ap (λ b. merged found (least (fault_if b 10 c.args.line))) c.is_wrong_element-is_wrong.ensures) c.keep_if-in-Element.ensures
    (own ∙ ap (λ xs. merged second (least (attribute_faults inside [] lines (map written_of xs)))) c.as_slice.ensures.value)
    ∙ ap (λ x. merged found (least (content_faults inside c.args.depth (record { first = c.args.line; attributes = lines }) (content_of x))))
    (sym c.in-Element.is)) c.check_attributes.ensures
