use Rattle.std.proofs.Common.{◌∙◌, sym, ap, is_some}
use Rattle.spec_document.specs.Declaration.{namespaces_in}
use Rattle.spec_document.specs.Place.{at_number, scope_at}
use Rattle.xt_names.specs.View.{entry_of}
use Rattle.xt_tree.proofs.Ways.{some_mapped, in_element, in_no_element}
use Rattle.xt_tree.proofs.doc.Doc.has_namespace.Goals as goal

pub returns-in_ok-scope-in-Element : goal.returns-in_ok-scope-in-Element
returns-in_ok-scope-in-Element c x e =
    let is = sym (c.own_kind.ensures x e) ∙ c.in-Element.is in
    let list = ap namespaces_in (c.in_ok-scope-in-Element.ensures x e) ∙ sym (in_element x.content (scope_at x) is) in
    c.is_some.ensures ∙ sym (some_mapped (λ n. entry_of n.now) c.namespace.result)
    ∙ ap is_some (c.namespace.ensures ∙ ap (at_number c.args.number) list)

pub returns-in_default : goal.returns-in_default
returns-in_default c x e =
    ap (λ ns. is_some (at_number c.args.number ns))
    (sym (in_no_element x.content (scope_at x) (λ is. c.in_default.not-Element (c.own_kind.ensures x e ∙ is))))
