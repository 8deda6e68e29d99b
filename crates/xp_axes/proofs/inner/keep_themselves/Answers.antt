use Rattle.std.proofs.Common.{◌+◌, ◌++◌, ◌∙◌, sym, arith, drop}
use Rattle.std.specs.Prelude.{filter}
use Rattle.std.proofs.lemmas.List.{at_drop_more}
use Rattle.xt_syntax.specs.View.{test_of}
use Rattle.xt_tree.specs.View.{forest_of, tree_of, itself}
use Rattle.xp_axes.specs.Along.{themselves}
use Rattle.xp_axes.specs.View.{is_passing}
use Rattle.xp_axes.proofs.Inside.{node_at, kept_next}
use Rattle.xp_axes.proofs.inner.keep_themselves.Goals as goal

pub keep-requires : goal.keep-requires
keep-requires c =
    (node_at c.args.document.now c.args.siblings.now c.loop-sibling.sibling-index c.sibling-item.result c.requires (omega arith) c.sibling-item.is).0

pub loop-sibling-preserved : goal.loop-sibling-preserved
loop-sibling-preserved c =
    let p = is_passing c.args.document.now c.args.axis (test_of c.args.test.now) in
    let found = c.loop-sibling.found.items in
    let at = sym (at_drop_more (λ rest. found ++ filter p (themselves (forest_of rest))) c.args.siblings.now c.loop-sibling.sibling-index
    c.sibling-item.result (omega arith)) ∙ c.loop-sibling.invariant in
    let here = rw (← c.sibling-item.is) at at in
    kept_next p found c.keep.new.found.items (itself (tree_of c.sibling-item.result.value).number)
    (themselves (forest_of (drop (c.loop-sibling.sibling-index + 1) c.args.siblings.now))) c.in_ok-keep.ensures ∙ here
