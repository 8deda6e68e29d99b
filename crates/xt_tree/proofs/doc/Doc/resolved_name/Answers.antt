use Rattle.std.proofs.Common.{◌∙◌, ap, Result, Ok, Err, IfOk}
use Rattle.spec_document.specs.Place.{name_by, scope_at}
use Rattle.xt_tree.proofs.doc.Doc.resolved_name.Goals as goal

more_known : {A E : Type 0} (P Q : A → Type 0) (r : Result A E) → ((a : A) → P a → Q a) → IfOk r P → IfOk r Q
more_known P Q (Ok a) h p = h a p
more_known P Q (Err e) h p = p

pub returns-in-None : goal.returns-in-None
returns-in-None c x e = ap (λ o. name_by o (scope_at x)) (c.in-None.ensures x e)

pub returns-in-Some : goal.returns-in-Some
returns-in-Some c =
    more_known _ _ c.name_there.result (λ name known x e. known x e ∙ ap (λ o. name_by o (scope_at x)) (c.in-Some.ensures x e)) c.name_there.ensures
