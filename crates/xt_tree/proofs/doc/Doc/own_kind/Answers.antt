use Rattle.std.proofs.Common.{ap, ◌∙◌}
use Rattle.spec_document.specs.Place.{kind_by}
use Rattle.xt_tree.proofs.doc.Doc.own_kind.Goals as goal

pub returns-in-None : goal.returns-in-None
returns-in-None c x e = ap kind_by (c.in-None.ensures x e)

pub returns-in-Some : goal.returns-in-Some
returns-in-Some c x e = c.kind.ensures ∙ ap kind_by (c.in-Some.ensures x e)
