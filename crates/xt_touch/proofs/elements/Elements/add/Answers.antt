use Rattle.std.proofs.Common.{◌∷◌, ◌++◌, [], List, subst}
use Rattle.spec_node.specs.declared.node_ref.NodeRef.{NodeRef}
use Rattle.xt_touch.specs.Sets.{AreSameElements}
use Rattle.xt_touch.proofs.Among.{key_added, named}
use Rattle.xt_touch.proofs.elements.Elements.add.Goals as goal

pub returns : goal.returns
returns c =
    subst (λ (was : List NodeRef). AreSameElements (named c.insert.new.self.keys) (was ++ c.args.element ∷ [])) c.self.view_is
    (key_added c.self.inside.set.keys c.insert.new.self.keys c.args.element c.in_ok-insert.ensures.updates.0)
