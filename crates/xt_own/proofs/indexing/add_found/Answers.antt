use Rattle.std.proofs.Common.{List, ap, subst, sym, ◌∙◌}
use Rattle.spec_document.specs.Name.{Expanded}
use Rattle.spec_meaning.specs.Question.{Key, SomeNodes}
use Rattle.spec_node.specs.declared.node_ref.NodeRef.{NodeRef}
use Rattle.xt_world.proofs.Holding.{one_more_found}
use Rattle.xt_world.specs.SourceView.{AreFound}
use Rattle.xt_world.specs.View.{truth_in}
use Rattle.xt_world.specs.declared.found.FoundKeys.{FoundKeys}
use Rattle.xt_own.proofs.indexing.add_found.Goals as goal

pub returns : goal.returns
returns c = λ s parameters document found known.
    subst (λ (ks : List FoundKeys). AreFound s document ks) (sym c.in_ok-push.ensures.items)
    (one_more_found s document c.args.found.now.items _
    (λ text. ap (λ (ns : List NodeRef). SomeNodes ns) (c.in_ok-index.ensures text) ∙ sym (known.answers text)
    ∙ ap (λ (n : Expanded). truth_in s parameters document (Key n text)) (sym c.in-Ok.ensures))
    found)
