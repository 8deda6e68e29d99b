use Rattle.std.proofs.Common.{◌∙◌, sym, ap, subst}
use Rattle.std.specs.Prelude.{filter}
use Rattle.xt_syntax.specs.View.{test_of}
use Rattle.xp_axes.specs.View.{is_passing, AreNodes}
use Rattle.xp_axes.proofs.Reached.{are_nodes, more_known}
use Rattle.xp_axes.proofs.Inside.{there, inner_is}
use Rattle.xp_axes.proofs.answer.kept_on.Goals as goal

pub returns-then-is_inner : goal.returns-then-is_inner
returns-then-is_inner c =
    let d = c.args.document.now in
    let r = c.args.node.now in
    let p = is_passing d c.args.axis (test_of c.args.test.now) in
    let i = there d c.distinct_numbers.ensures r c.requires in
    more_known _ _ c.at_and_below.result
    (λ kept known. known i.entry.is.at.element i.found
    ∙ ap (filter p) (sym (inner_is d c.args.axis r (sym c.is_inner.ensures ∙ c.if-is_inner.true) i)))
    c.at_and_below.ensures

pub passing-requires : goal.passing-requires
passing-requires c =
    subst (AreNodes c.args.document.now) (sym (c.as_slice.ensures.value ∙ c.in_ok-nodes.ensures))
    (are_nodes c.args.document.now c.distinct_numbers.ensures c.args.axis c.args.node.now)

pub returns : goal.returns
returns c =
    let p = is_passing c.args.document.now c.args.axis (test_of c.args.test.now) in
    more_known _ _ c.passing.result (λ kept known. known ∙ ap (filter p) (c.as_slice.ensures.value ∙ c.in_ok-nodes.ensures)) c.passing.ensures
