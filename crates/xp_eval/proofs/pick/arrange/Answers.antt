use Rattle.std.proofs.Common.{◌≡◌, ◌≤◌, List, [], ◌∷◌, length, refl, sym, ◌∙◌, arith}
use Rattle.spec_document.specs.declared.axis.Axis.{Axis}
use Rattle.spec_meaning.specs.Call.{arranged}
use Rattle.spec_meaning.specs.Operation.{in_order}
use Rattle.spec_node.specs.declared.node_ref.NodeRef.{NodeRef}
use Rattle.xp_eval.proofs.Turns.{is_some}
use Rattle.xp_eval.proofs.pick.arrange.Goals as goal

of_several : (from : List NodeRef) (a : Axis) (found : List NodeRef) → 2 ≤ length from → arranged from a found ≡ in_order found
of_several [] a found h = absurd (omega arith)
of_several (n ∷ []) a found h = absurd (omega arith)
of_several (n ∷ m ∷ more) a found h = refl

pub returns-clause-runs : goal.returns-clause-runs
returns-clause-runs g c supply depth =
    let some = is_some c.args.from.now (sym c.is_empty.ensures ∙ c.if-is_empty.false) in
    rw (of_several c.args.from.now c.args.axis c.args.found.items (omega (arith, some))) (c.ask_order.ensures.runs supply depth)
