use Rattle.std.proofs.Common.{◌∙◌, ap}
use Rattle.spec_compile.specs.Content.{text_among}
use Rattle.xt_syntax.specs.PartView.{site_of}
use Rattle.xt_attributes.specs.View.{entries_in}
use Rattle.xt_content.specs.Kind.{child_by}
use Rattle.xt_content.specs.View.{child_if, children_in}
use Rattle.xt_content.proofs.Natures.{child_is, if_ok_is}
use Rattle.xt_tree.specs.View.{forest_of}
use Rattle.xt_content.proofs.instruction.child_of.Goals as goal

pub returns : goal.returns
returns c =
    if_ok_is child_if c.child_by.result
    (ap (λ kind. child_by kind (site_of c.args.site) (entries_in c.args.entries.now) (text_among (forest_of c.args.nodes.now)) (children_in c.args.children.items)) c.kind_of.ensures
    ∙ child_is c.args.element (site_of c.args.site) (entries_in c.args.entries.now) (text_among (forest_of c.args.nodes.now)) (children_in c.args.children.items)) c.child_by.ensures
