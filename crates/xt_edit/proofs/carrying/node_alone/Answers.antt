use Rattle.std.proofs.Common.{[], ◌∷◌, ap, ◌∙◌, rules}
use Rattle.spec_document.specs.Forest.{followed}
use Rattle.xt_tree.specs.View.{forest_of}
use Rattle.xt_edit.specs.Site.{spot_in}
use Rattle.xt_edit.proofs.Carried.{alone-is, index-within}
use Rattle.xt_edit.proofs.Sites.{position-from}
use Rattle.xt_edit.proofs.carrying.node_alone.Goals as goal

pub overflow_sub-index : goal.overflow_sub-index
overflow_sub-index c = position-from c.args.document.now (spot_in c.args.site.spot) c.args.site.node.now c.requires

pub offset_bounds-siblings-index : goal.offset_bounds-siblings-index
offset_bounds-siblings-index c =
    let less = index-within c.args.document.now (spot_in c.args.site.spot) c.args.site.node.now c.children_of-siblings.result.now c.requires
    c.children_of-siblings.ensures in
    search (rules, less)

pub bounds-siblings-index : goal.bounds-siblings-index
bounds-siblings-index c =
    index-within c.args.document.now (spot_in c.args.site.spot) c.args.site.node.now c.children_of-siblings.result.now c.requires
    c.children_of-siblings.ensures

pub returns : goal.returns
returns c =
    c.in_ok-push_shared.ensures ∙ ap (λ f. followed f (forest_of (c.index-siblings-index.result ∷ []))) c.new-nodes.ensures
    ∙ alone-is c.args.document.now (spot_in c.args.site.spot) c.args.site.node.now c.children_of-siblings.result.now c.index-siblings-index.result c.requires
    c.children_of-siblings.ensures c.index-siblings-index.is
