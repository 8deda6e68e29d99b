use Rattle.std.proofs.Common.{◌≡◌, Some, sym, ap, ◌∙◌}
use Rattle.std.specs.Option.{option_map}
use Rattle.xt_tree.specs.View.{content_of, tree_of}
use Rattle.xt_edit.specs.Site.{spot_in}
use Rattle.xt_edit.specs.Valued.{valued}
use Rattle.xt_edit.proofs.Renewed.{keeps-there}
use Rattle.xt_edit.proofs.Valued.{keeps-valued}
use Rattle.xt_edit.proofs.text.with_value.Goals as goal

pub with_content-requires : goal.with_content-requires
with_content-requires c old e =
    let node = c.args.site.node.now in
    let new = content_of c.in-Some.content in
    let is : valued (tree_of node).content c.args.value.now ≡ Some new =
    sym (ap (λ content. valued content c.args.value.now) c.content.ensures) ∙ sym c.in_ok-valued.ensures ∙ ap (option_map content_of) c.in-Some.is in
    keeps-there c.args.document.now (spot_in c.args.site.spot) node new old c.requires.there (keeps-valued (tree_of node).content c.args.value.now new is) e
