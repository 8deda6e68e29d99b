use Rattle.std.proofs.Common.{◌≡◌, ◌<◌, length, map, get_or, sym, ap, ◌∙◌, arith}
use Rattle.std.proofs.lemmas.List.{get_or-map, get_or_default, length-map}
use Rattle.spec_node.specs.declared.node_ref.NodeRef.{NodeRef}
use Rattle.spec_node.specs.declared.node_ref.Part.TheVariants as part
use Rattle.xt_questions.specs.Runs.{items}
use Rattle.xt_keys.proofs.Grouping.{next_node}
use Rattle.xt_keys.proofs.groups.grouped.Goals as goal

pub loop-i-preserved : goal.loop-i-preserved
loop-i-preserved c = λ text.
    let i = c.loop-i.i in
    let nodes = c.args.nodes.now in
    let found = c.args.found.now in
    let none : NodeRef = record { node = record { number = 0 }; part = part.Itself } in
    let within : i < length nodes = omega arith in
    let among : i < length found = omega (arith, within, c.requires.each) in
    let texts = c.as_slice.result.now in
    let is : get_or (map items found) i texts ≡ texts =
    get_or-map items found i c.index-found-i.result texts among ∙ ap items (sym c.index-found-i.is) ∙ sym c.as_slice.ensures.value in
    next_node text nodes (map items found) i (get_or nodes i none) texts _ _ c.requires.apart within (length-map found items ∙ c.requires.each)
    (get_or_default nodes i (get_or nodes i none) none within) is (c.loop-i.invariant text) (c.in_ok-add_to_each.ensures text)
