use Rattle.std.proofs.Common.{◌+◌, ◌∙◌, sym, ap}
use Rattle.spec_document.specs.Forest as spec
use Rattle.spec_document.specs.Forest.{followed}
use Rattle.xt_tree.specs.View.{content_of, forest_of}
use Rattle.xt_tree.proofs.Renumbered.{numbered-plain}
use Rattle.xt_tree.proofs.doc.Nodes.renewed.Goals as goal

pub returns : goal.returns
returns c =
    let content = content_of c.args.content in
    let f = forest_of c.args.children.now in
    c.in_ok-push.ensures.ok ∙ ap (λ g. followed g (spec.Node c.args.first content c.in_ok-below.below spec.Empty)) c.new-nodes.ensures
    ∙ ap (λ g. spec.Node c.args.first content g spec.Empty) (c.in_ok-below.ensures.nodes ∙ sym (numbered-plain (c.args.first + 1) f))
