use Rattle.std.proofs.Common.{◌≡◌, ◌==◌, true, false, ◌∙◌, sym, ap, Some, Result, Ok, Err, IfOk}
use Rattle.spec_document.specs.Forest.{texts_in}
use Rattle.spec_document.specs.Place.{string_value_by}
use Rattle.xt_tree.specs.View.{forest_of, tree_of}
use Rattle.xt_tree.proofs.Ways.{root_is, no_tree, is_tree}
use Rattle.xt_tree.proofs.doc.Doc.own_value.Goals as goal

more_known : {A E : Type 0} (P Q : A → Type 0) (r : Result A E) → ((a : A) → P a → Q a) → IfOk r P → IfOk r Q
more_known P Q (Ok a) h p = h a p
more_known P Q (Err e) h p = p

pub returns-then-eq : goal.returns-then-eq
returns-then-eq c =
    let d = c.args.self.now in
    let same : (d.root == c.args.id.number) ≡ true = ap (λ e. e.root == c.args.id.number) (sym c.self.view_is) ∙ sym c.eq.ensures ∙ c.if-eq.true in
    more_known _ _ c.texts_of.result
    (λ text known x e.
    known ∙ ap (λ xs. texts_in (forest_of xs)) c.as_slice.ensures.value ∙ ap (λ d. texts_in d.nodes) c.self.view_is
    ∙ ap (λ n. string_value_by n.content n.children) (root_is d c.args.id.number x same e))
    c.texts_of.ensures

pub returns-in-None : goal.returns-in-None
returns-in-None c x e =
    let d = c.args.self.now in
    let apart : (d.root == c.args.id.number) ≡ false = ap (λ e. e.root == c.args.id.number) (sym c.self.view_is) ∙ sym c.eq.ensures ∙ c.if-eq.false in
    absurd (no_tree d c.args.id.number x apart e (sym c.in-None.ensures))

pub returns-in-Some : goal.returns-in-Some
returns-in-Some c =
    let d = c.args.self.now in
    let apart : (d.root == c.args.id.number) ≡ false = ap (λ e. e.root == c.args.id.number) (sym c.self.view_is) ∙ sym c.eq.ensures ∙ c.if-eq.false in
    more_known _ _ c.value_of.result
    (λ text known x e.
    let is = is_tree d c.args.id.number x (tree_of c.in-Some.node.now) apart e (sym c.in-Some.ensures) in
    known
    ∙ sym (ap (λ o. string_value_by o x.children) is.content ∙ ap (string_value_by (Some (tree_of c.in-Some.node.now).content)) is.children))
    c.value_of.ensures
