use Rattle.std.proofs.Common.{◌∙◌, ap}
use Rattle.std.proofs.lemmas.Result.{on_ok_weaker}
use Rattle.xt_tree.specs.View.{forest_of, tree_of}
use Rattle.xp_axes.specs.Along.{ended}
use Rattle.xp_axes.proofs.Sliced.{gone_past, gone_on}
use Rattle.xp_axes.proofs.along.+along.Goals as goal

pub returns-then-index-children : goal.returns-then-index-children
returns-then-index-children t c =
    on_ok_weaker c.take.result
    (λ e. gone_past c.args.axis c.args.node.part (ended c.args.axis c.args.node c.args.node.part) c.args.path.now c.args.id.number c.is_end-is_end.result
    c.is_above.result c.of.result
    c.args.found.now.items c.take_if.new.found.items c.take.new.found.items
    (record {
      some = c.in-len1-up.len_at_least;
      end = c.is_end-is_end.ensures;
      above_is = c.is_above.ensures;
      self_is = c.of.ensures;
      one_is =
          c.in_ok-take_if-in-len1-up.ensures;
    })
    c.saturating_sub-index.result c.args.children.now c.saturating_sub-index.ensures c.if-index-children.true c.before-then-index-children.result
    c.before-then-index-children.ensures e)
    c.take.ensures

pub returns-in_ok-along-in-len1-up : goal.returns-in_ok-along-in-len1-up
returns-in_ok-along-in-len1-up t c =
    let xs = c.args.children.now in
    let i = c.saturating_sub-index.result in
    let d = c.index-children-index.result in
    let is = ap (λ n. (tree_of n.value).number) c.index-children-index.is in
    let below = ap (λ n. (tree_of n.value).children) c.index-children-index.is in
    on_ok_weaker c.take-in-len1-up-2.result
    (λ e. gone_on c.args.axis c.args.node.part (ended c.args.axis c.args.node c.args.node.part) c.args.path.now c.args.id.number c.is_end-is_end.result
    c.is_above.result c.of.result
    c.args.found.now.items c.take_if.new.found.items c.take-in-len1-up.new.found.items c.along.new.found.items c.take-in-len1-up-2.new.found.items
    (record {
      some = c.in-len1-up.len_at_least;
      end = c.is_end-is_end.ensures;
      above_is = c.is_above.ensures;
      self_is = c.of.ensures;
      one_is =
          c.in_ok-take_if-in-len1-up.ensures;
    })
    i xs d c.saturating_sub-index.ensures c.if-index-children.false c.before-in-len1-up.result c.after.result c.before-in-len1-up.ensures
    c.in_ok-take-in-len1-up.ensures
    c.id.result.number (forest_of c.children.result.now)
    (c.id.ensures ∙ ap (λ n. (tree_of n).number) c.deref.ensures ∙ is)
    (c.children.ensures.forest ∙ ap (λ n. (tree_of n).children) c.deref-in-len1-up.ensures ∙ below)
    c.in_ok-along-in-len1-up.ensures c.after.ensures e)
    c.take-in-len1-up-2.ensures
