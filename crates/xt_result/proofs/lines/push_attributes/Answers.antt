use Rattle.std.proofs.Common.{◌+◌, ◌++◌, ◌∷◌, [], ◌∙◌, sym, ap, drop, map, arith, append_assoc, append-nil}
use Rattle.std.proofs.lemmas.List.{at_drop_more, at_drop_all}
use Rattle.xt_tree.specs.View.{written_of}
use Rattle.xt_result.specs.Ahead.{attribute_lines}
use Rattle.xt_result.proofs.lines.push_attributes.Goals as goal

pub loop-attribute-preserved : goal.loop-attribute-preserved
loop-attribute-preserved c =
    let lines = c.loop-attribute.lines.items in
    let list = c.args.attributes.now in
    let item = c.attribute-item.result in
    let rest = attribute_lines (map written_of (drop (c.loop-attribute.attribute-index + 1) list)) in
    let at = at_drop_more (λ xs. lines ++ attribute_lines (map written_of xs)) list c.loop-attribute.attribute-index item (omega arith) in
    let here = rw (← c.attribute-item.is) at at in
    ap (λ ls. ls ++ rest) c.in_ok-push.ensures.items ∙ append_assoc lines (c.in_ok-line.line ∷ []) rest
    ∙ ap (λ l. lines ++ (l ∷ rest)) c.in_ok-line.ensures ∙ sym here ∙ c.loop-attribute.invariant

pub returns : goal.returns
returns c =
    let lines = c.loop-attribute.lines.items in
    sym (append-nil lines)
    ∙ sym (at_drop_all (λ xs. lines ++ attribute_lines (map written_of xs)) c.args.attributes.now c.loop-attribute.attribute-index (omega arith))
    ∙ c.loop-attribute.invariant
