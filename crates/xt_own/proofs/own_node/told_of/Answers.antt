use Rattle.std.proofs.Common.{sym, ap, ◌∙◌}
use Rattle.std.specs.Prelude.{option_map}
use Rattle.xt_world.specs.View.{truth_in}
use Rattle.xt_spared.specs.View.{questions_of}
use Rattle.xt_own.specs.Keys.{IsNodeOf}
use Rattle.xt_own.specs.declared.own_node.OwnNode.{OwnNode}
use Rattle.xt_own.proofs.NodeLog.{told_known}
use Rattle.xt_own.proofs.SideBySide.{node_told}
use Rattle.xt_own.proofs.own_node.told_of.Goals as goal

pub returns-in-Some-clause-known : goal.returns-in-Some-clause-known
returns-in-Some-clause-known c s parameters document name log =
    let P : OwnNode → Type 0 = IsNodeOf s (truth_in s parameters document) name in
    let kept = ap (option_map (λ q. questions_of q.items)) (sym c.in-Some.is) ∙ c.in-Ok.ensures in
    let own : OwnNode = record { node = c.args.node; texts = c.args.texts; reads = c.in-Some.reads } in
    node_told c.shared.result own P (told_known s parameters document name own c.args.reads.now log kept) c.shared.ensures
