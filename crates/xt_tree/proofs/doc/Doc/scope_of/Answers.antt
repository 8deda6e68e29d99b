use Rattle.std.proofs.Common.{◌∙◌, sym, ap, Result, Ok, Err, IfOk}
use Rattle.xt_tree.specs.Kept.{scope_kept}
use Rattle.xt_tree.specs.View.{numbered_node}
use Rattle.xt_tree.proofs.Named.{scope_is}
use Rattle.xt_tree.proofs.doc.Doc.scope_of.Goals as goal

more_known : {A E : Type 0} (P Q : A → Type 0) (r : Result A E) → ((a : A) → P a → Q a) → IfOk r P → IfOk r Q
more_known P Q (Ok a) h p = h a p
more_known P Q (Err e) h p = p

pub returns-in-Some : goal.returns-in-Some
returns-in-Some c =
    let number = c.args.node.now.node.number in
    more_known _ _ c.copy.result
    (λ scope known x e.
    known ∙ scope_is c.self.inside.names.value _ c.self.invariant.sound.names number c.in-Some.scope.now
    (sym (c.in-Some.ensures ∙ ap (λ names. scope_kept names number) c.deref.ensures)) x (ap (λ d. numbered_node d number) c.self.view_is ∙ e))
    c.copy.ensures
