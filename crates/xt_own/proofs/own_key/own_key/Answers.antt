use Rattle.std.proofs.Common.{subst, ◌∙◌}
use Rattle.spec_node.specs.declared.node_ref.NodeRef.{NodeRef}
use Rattle.std.proofs.Common.{List}
use Rattle.xt_keys.specs.View.{AreNodesApart}
use Rattle.xt_own.proofs.KeyAnswers.{key_of_known}
use Rattle.xt_own.proofs.SideBySide.{some_is}
use Rattle.xt_own.proofs.own_key.own_key.Goals as goal

pub returns-clause-key : goal.returns-clause-key
returns-clause-key c parameters =
    let A : List NodeRef → Type 0 = AreNodesApart in
    key_of_known c.args.stylesheet.now parameters c.args.document.now c.args.name.now _ c.in-Some.owns c.in_ok-key_of-in-Some.ensures.name c.in_ok-key_of-in-Some.ensures.nodes
    (some_is _ c.in-Some.is c.in_ok-own_nodes.ensures.nodes ∙ c.as_slice.ensures.value ∙ c.in_ok-nodes.ensures.nodes) (subst A c.in_ok-nodes.ensures.nodes c.in_ok-nodes.ensures.apart)
    (some_is _ c.in-Some.is (c.in_ok-own_nodes.ensures.known parameters))
