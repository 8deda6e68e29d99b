use Rattle.std.proofs.Common.{◌∙◌}
use Rattle.std.specs.Str.{chars}
use Rattle.std.specs.declared.cmp.Ordering.TheVariants.{Less, Equal, Greater}
use Rattle.xt_names.proofs.Nodes.{opened, asked, ordered_before, ordered_after, found_before, found_at, found_after}
use Rattle.xt_names.proofs.search_tree.find.Goals as goal

pub loop-below-preserved-in-Less : goal.loop-below-preserved-in-Less
loop-below-preserved-in-Less c =
    let own = c.deref-own.result.now in
    let q = chars c.args.prefix.now in
    let all = opened c.loop-below.below.now c.in-Some.node c.deref-node.result.now own c.in-Some.is c.deref-node.ensures c.deref-own.ensures in
    record {
      ordered = ordered_before _ _ _ _ all c.loop-below.invariant.ordered;
      found = found_before _ _ _ _ q all c.loop-below.invariant.ordered (asked Less q own _ c.as_str.ensures.characters c.in-Less.ensures)
          ∙ c.loop-below.invariant.found;
    }

pub returns-in-Equal : goal.returns-in-Equal
returns-in-Equal c =
    let own = c.deref-own.result.now in
    let q = chars c.args.prefix.now in
    let all = opened c.loop-below.below.now c.in-Some.node c.deref-node.result.now own c.in-Some.is c.deref-node.ensures c.deref-own.ensures in
    found_at _ _ _ _ q all c.loop-below.invariant.ordered (asked Equal q own _ c.as_str.ensures.characters c.in-Equal.ensures)
    ∙ c.loop-below.invariant.found

pub loop-below-preserved : goal.loop-below-preserved
loop-below-preserved c =
    let own = c.deref-own.result.now in
    let q = chars c.args.prefix.now in
    let all = opened c.loop-below.below.now c.in-Some.node c.deref-node.result.now own c.in-Some.is c.deref-node.ensures c.deref-own.ensures in
    record {
      ordered = ordered_after _ _ _ _ all c.loop-below.invariant.ordered;
      found = found_after _ _ _ _ q all c.loop-below.invariant.ordered (asked Greater q own _ c.as_str.ensures.characters c.in-Greater.ensures)
          ∙ c.loop-below.invariant.found;
    }
