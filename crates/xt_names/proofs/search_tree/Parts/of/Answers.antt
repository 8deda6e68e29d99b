use Rattle.std.proofs.Common.{ap, ◌∙◌}
use Rattle.xt_names.specs.declared.search_tree.Node.{out-Node}
use Rattle.xt_names.specs.SearchTree.{link_entries}
use Rattle.xt_names.proofs.Nodes.{parted}
use Rattle.xt_names.proofs.search_tree.Parts.of.Goals as goal

pub returns : goal.returns
returns c =
    parted c.args.node.now.value c.in_ok-share.field-0 c.in_ok-share-2.field-0 c.in_ok-clone.field-0.value
    (c.in_ok-share.ensures ∙ ap (λ n. link_entries (out-Node n).before) c.deref.ensures)
    (c.in_ok-clone.ensures.cases ∙ ap (λ n. (out-Node n).namespace.value) c.deref-2.ensures)
    (c.in_ok-share-2.ensures ∙ ap (λ n. link_entries (out-Node n).after) c.deref-3.ensures)
