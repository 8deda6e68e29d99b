use Rattle.std.proofs.Common.{◌≡◌, ◌==◌, true, false, ◌∙◌, sym, ap}
use Rattle.spec_document.specs.Place.{at_number, attributes_in, attributes_of}
use Rattle.xt_tree.specs.View.{tree_of}
use Rattle.xt_tree.proofs.Ways.{root_is, no_tree, is_tree}
use Rattle.xt_tree.proofs.doc.Doc.attribute.Goals as goal

pub returns-then-eq : goal.returns-then-eq
returns-then-eq c x e =
    let d = c.args.self.now in
    let same : (d.root == c.args.id.number) ≡ true = ap (λ e. e.root == c.args.id.number) (sym c.self.view_is) ∙ sym c.eq.ensures ∙ c.if-eq.true in
    ap (λ n. at_number c.args.number (attributes_of n)) (root_is d c.args.id.number x same e)

pub returns-in-None : goal.returns-in-None
returns-in-None c x e =
    let d = c.args.self.now in
    let apart : (d.root == c.args.id.number) ≡ false = ap (λ e. e.root == c.args.id.number) (sym c.self.view_is) ∙ sym c.eq.ensures ∙ c.if-eq.false in
    absurd (no_tree d c.args.id.number x apart e (sym c.in-None.ensures))

pub returns-in-Some : goal.returns-in-Some
returns-in-Some c x e =
    let d = c.args.self.now in
    let apart : (d.root == c.args.id.number) ≡ false = ap (λ e. e.root == c.args.id.number) (sym c.self.view_is) ∙ sym c.eq.ensures ∙ c.if-eq.false in
    let is = is_tree d c.args.id.number x (tree_of c.in-Some.node.now) apart e (sym c.in-Some.ensures) in
    c.attribute.ensures ∙ sym (ap (λ o. at_number c.args.number (attributes_in o)) is.content)
