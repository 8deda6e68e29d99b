use Rattle.std.proofs.Common.{◌∙◌, ap, map, Result, Ok, Err, IfOk}
use Rattle.spec_document.specs.Place.{attributes_in}
use Rattle.xt_tree.specs.View.{written_of}
use Rattle.xt_tree.proofs.doc.Doc.attributes.Goals as goal

more_known : {A E : Type 0} (P Q : A → Type 0) (r : Result A E) → ((a : A) → P a → Q a) → IfOk r P → IfOk r Q
more_known P Q (Ok a) h p = h a p
more_known P Q (Err e) h p = p

pub returns-in-None : goal.returns-in-None
returns-in-None c x e = ap (map (λ a. written_of a.now)) c.new.ensures.items ∙ ap (λ o. attributes_in o) (c.in-None.ensures x e)

pub returns-in-Some : goal.returns-in-Some
returns-in-Some c =
    more_known _ _ c.attributes_in.result (λ found known x e. known ∙ ap (λ o. attributes_in o) (c.in-Some.ensures x e)) c.attributes_in.ensures
