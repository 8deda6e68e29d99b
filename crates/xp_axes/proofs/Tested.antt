-- A node test by what is known of the node.
use Rattle.std.proofs.Common.{◌≡◌, ℕ, Bool, true, false, List, Option, None, Some, sym, ap, ◌∙◌}
use Rattle.std.specs.Prelude.{◌&&◌}
use Rattle.std.specs.Option.{option_map}
use Rattle.spec_document.specs.declared.axis.Axis.{Axis}
use Rattle.spec_document.specs.declared.kind.Kind.{Kind}
use Rattle.spec_document.specs.Forest.{Document}
use Rattle.spec_document.specs.Name.{Expanded}
use Rattle.spec_document.specs.Place.{Item, kind_of, expanded_name}
use Rattle.spec_expression.specs.Syntax.{Test, InNamespace}
use Rattle.spec_meaning.specs.Step.{is_principal, is_in_namespace, passes}
use Rattle.spec_node.specs.declared.node_ref.NodeRef.{NodeRef}
use Rattle.xt_tree.specs.View.{item_of}
use Rattle.xp_axes.specs.View.{is_passing}
use Rattle.xp_axes.proofs.Kept.{some_same}

pub in_namespace : (document : Document ℕ) (x : Axis) (r : NodeRef) (t : Test) (uri : List ℕ) (k : Kind) (name : Option Expanded) (p b : Bool)
    → t ≡ InNamespace uri → option_map kind_of (item_of document r) ≡ Some k → p ≡ is_principal x k → p ≡ true
    → option_map expanded_name (item_of document r) ≡ Some name → b ≡ is_in_namespace uri name → b ≡ is_passing document x t r
in_namespace document x r t uri k name p b e kind own true_is named is =
    is ∙ by (item_of document r) kind named ∙ sym (ap (λ u. is_passing document x u r) e)
  where
    by : (o : Option (Item ℕ)) → option_map kind_of o ≡ Some k → option_map expanded_name o ≡ Some name
        → is_in_namespace uri name ≡ (elim o as (λ _. Bool) [ None ↦ false | Some item ↦ passes x (InNamespace uri) item ])
    by None h g = absurd (cc)
    by (Some item) h g =
        ap (is_in_namespace uri) (sym (some_same (expanded_name item) name g))
        ∙ ap (λ z. z && is_in_namespace uri (expanded_name item)) (sym true_is ∙ own ∙ ap (is_principal x) (sym (some_same (kind_of item) k h)))
