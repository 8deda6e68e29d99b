use Rattle.std.proofs.Common.{List, [], ◌∷◌, ◌++◌, sym, subst}
use Rattle.spec_node.specs.declared.node_ref.NodeRef.{NodeRef}
use Rattle.xt_world.specs.Alike.{AreAlike}
use Rattle.xt_world.proofs.Both.{with_alike, with_other}
use Rattle.xt_world.proofs.common.push_if_alike.Goals as goal

pub returns-in_ok-push : goal.returns-in_ok-push
returns-in_ok-push c = λ elements h.
    subst (λ (list : List NodeRef). AreAlike c.args.one.now c.args.other.now (elements ++ c.args.element ∷ []) list) (sym c.in_ok-push.ensures.items)
    (with_alike c.args.one.now c.args.other.now elements c.args.list.now.items c.args.element (c.same_unit.ensures.0 c.if-same_unit.true) h)

pub returns-else-same_unit : goal.returns-else-same_unit
returns-else-same_unit c = λ elements h.
    with_other c.args.one.now c.args.other.now elements c.args.list.now.items c.args.element c.same_unit.result c.same_unit.ensures
    c.if-same_unit.false h
