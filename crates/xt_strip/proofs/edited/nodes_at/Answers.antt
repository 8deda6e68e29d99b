use Rattle.std.proofs.Common.{map, ap, ◌∙◌}
use Rattle.xt_syntax.specs.SheetView.{space_rule_of}
use Rattle.xt_strip.specs.View.{around_of, changed}
use Rattle.xt_tree.specs.View.{forest_of}
use Rattle.xt_strip.proofs.Places.{nodes_after}
use Rattle.xt_strip.proofs.edited.nodes_at.Goals as goal

pub returns : goal.returns
returns c =
    let before = c.args.before.now in
    let after = c.args.after.now in
    nodes_after (map space_rule_of c.args.rules.now) c.args.place.path.now (changed c.change_at-change.result) before after
    (around_of c.in_ok-around.around) (forest_of c.children.result.now) (forest_of c.children-seen.result.now) _
    (c.change_at-change.ensures before after c.requires.edit c.requires.spot c.requires.spliced c.in-Some.ensures c.in-Some-children_at.ensures)
    c.in_ok-around.ensures c.children.ensures (c.children-seen.ensures ∙ ap (λ d. d.nodes) c.requires.seen) c.along.ensures
