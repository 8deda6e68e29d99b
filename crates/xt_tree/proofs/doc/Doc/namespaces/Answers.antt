use Rattle.std.proofs.Common.{◌∙◌, sym, ap, Result, Ok, Err, IfOk}
use Rattle.spec_document.specs.Declaration.{namespaces_in}
use Rattle.spec_document.specs.Place.{scope_at}
use Rattle.xt_names.specs.View.{entries_of}
use Rattle.xt_tree.specs.View.{numbered_node}
use Rattle.xt_tree.proofs.Ways.{in_element, in_no_element}
use Rattle.xt_tree.proofs.doc.Doc.namespaces.Goals as goal

more_known : {A E : Type 0} (P Q : A → Type 0) (r : Result A E) → ((a : A) → P a → Q a) → IfOk r P → IfOk r Q
more_known P Q (Ok a) h p = h a p
more_known P Q (Err e) h p = p

pub returns-in_ok-scope_of-in-Element : goal.returns-in_ok-scope_of-in-Element
returns-in_ok-scope_of-in-Element c =
    more_known _ _ c.namespaces-in-Element.result
    (λ list known x e.
    let is = sym (c.own_kind.ensures x e) ∙ c.in-Element.is in
    known ∙ ap namespaces_in (c.in_ok-scope_of-in-Element.ensures x (ap (λ r. numbered_node c.args.self.now r.node.number) c.of.ensures ∙ e))
    ∙ sym (in_element x.content (scope_at x) is))
    c.namespaces-in-Element.ensures

pub returns-in_default : goal.returns-in_default
returns-in_default c x e =
    ap entries_of c.new.ensures.items ∙ sym (in_no_element x.content (scope_at x) (λ is. c.in_default.not-Element (c.own_kind.ensures x e ∙ is)))
