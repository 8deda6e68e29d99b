use Rattle.std.proofs.Common.{◌≡◌, Option, map}
use Rattle.spec_run.specs.Content.{items_entered, sorted, template_called}
use Rattle.xt_syntax.specs.PartView.{sort_key_of}
use Rattle.spec_node.specs.declared.node_ref.NodeRef.{NodeRef}
use Rattle.xt_frames.specs.View.{here_of}
use Rattle.xt_instructions.proofs.control.to_items.Goals as goal

pub returns : goal.returns
returns c ps after =
    let element = rw (c.as_slice.ensures.value, c.deref.ensures) at c.template_called.ensures in
    λ i. sorted (map sort_key_of (c.in_ok-keys.ensures i).items) (c.in_ok-standing.ensures.here i) c.args.nodes.items (λ ns. items_entered (c.in_ok-place.ensures i) (element i) ps c.args.here.now.depth ns after)
