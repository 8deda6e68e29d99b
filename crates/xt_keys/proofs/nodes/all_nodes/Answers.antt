use Rattle.std.proofs.Common.{◌≡◌, ◌++◌, ◌∷◌, [], sym, ap, subst, ◌∙◌}
use Rattle.spec_document.specs.Scope.{root_scope}
use Rattle.xt_tree.specs.View.{itself}
use Rattle.spec_node.specs.declared.node_ref.NodeRef.{NodeRef}
use Rattle.xt_keys.specs.Nodes.{refs_in}
use Rattle.xt_keys.specs.View.{AreNodesApart}
use Rattle.xt_keys.proofs.Refs.{all_named, all_apart}
use Rattle.xt_keys.proofs.nodes.all_nodes.Goals as goal

pub returns-clause-nodes : goal.returns-clause-nodes
returns-clause-nodes c =
    let root : c.of.result ≡ itself c.args.document.now.root = c.of.ensures ∙ ap itself c.root.ensures in
    let first : c.push.new.self.items ≡ itself c.args.document.now.root ∷ [] =
    c.in_ok-push.ensures.items ∙ ap (λ l. l ++ c.of.result ∷ []) c.new-nodes.ensures.items ∙ ap (λ (n : NodeRef). n ∷ []) root in
    let scope : c.in_ok-scope.scope ≡ root_scope = c.in_ok-scope.ensures in
    c.in_ok-push_siblings.ensures ∙ (λ i. first i ++ refs_in (scope i) (c.children.ensures i)) ∙ all_named c.args.document.now

pub returns-clause-apart : goal.returns-clause-apart
returns-clause-apart c = subst AreNodesApart (sym (returns-clause-nodes c)) (all_apart c.args.document.now c.distinct_numbers.ensures)
