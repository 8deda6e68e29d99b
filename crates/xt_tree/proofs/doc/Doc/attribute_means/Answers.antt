use Rattle.std.proofs.Common.{sym, ap, ◌∙◌}
use Rattle.std.specs.Str.{chars}
use Rattle.spec_document.specs.Name.{qname_of}
use Rattle.spec_document.specs.Place.{scope_at}
use Rattle.xt_tree.specs.Local.{is_local}
use Rattle.xt_tree.proofs.Locals.{other_attribute}
use Rattle.xt_tree.proofs.doc.Doc.attribute_means.Goals as goal

pub returns-then-not-is_local : goal.returns-then-not-is_local
returns-then-not-is_local c x e =
    let name = qname_of (chars c.args.written.now) in
    sym (other_attribute c.args.wanted.now (scope_at x) name
    (ap (λ l. is_local l name) (sym c.local.ensures) ∙ sym c.is_local.ensures ∙ c.if-not-is_local.true))
