use Rattle.std.proofs.Common.{sym, ap, ◌∙◌}
use Rattle.spec_document.specs.Place.{scope_at}
use Rattle.xt_tree.specs.Local.{has_local}
use Rattle.xt_tree.specs.View.{content_of}
use Rattle.xt_tree.proofs.Locals.{other_node}
use Rattle.xt_tree.proofs.doc.Doc.is_there_named.Goals as goal

pub returns-then-not-has_local : goal.returns-then-not-has_local
returns-then-not-has_local c x e =
    let content = content_of c.args.content.now in
    sym (other_node c.args.wanted.now (scope_at x) content
    (ap (λ l. has_local l content) (sym c.local.ensures) ∙ sym c.has_local.ensures ∙ c.if-not-has_local.true))
