use Rattle.std.proofs.Common.{◌≡◌, ◌==◌, true, false, ◌∙◌, sym, ap, Some}
use Rattle.xt_tree.specs.View.{tree_of}
use Rattle.xt_tree.proofs.Ways.{root_is, no_tree, is_tree}
use Rattle.xt_tree.proofs.doc.Doc.content.Goals as goal

pub returns-then-eq : goal.returns-then-eq
returns-then-eq c x e =
    let d = c.args.self.now in
    let same : (d.root == c.args.id.number) ≡ true = ap (λ e. e.root == c.args.id.number) (sym c.self.view_is) ∙ sym c.eq.ensures ∙ c.if-eq.true in
    ap (λ n. n.content) (root_is d c.args.id.number x same e)

pub returns-in-None : goal.returns-in-None
returns-in-None c x e =
    let d = c.args.self.now in
    let apart : (d.root == c.args.id.number) ≡ false = ap (λ e. e.root == c.args.id.number) (sym c.self.view_is) ∙ sym c.eq.ensures ∙ c.if-eq.false in
    absurd (no_tree d c.args.id.number x apart e (sym c.in-None.ensures))

pub returns-in-Some : goal.returns-in-Some
returns-in-Some c x e =
    let d = c.args.self.now in
    let apart : (d.root == c.args.id.number) ≡ false = ap (λ e. e.root == c.args.id.number) (sym c.self.view_is) ∙ sym c.eq.ensures ∙ c.if-eq.false in
    let is = is_tree d c.args.id.number x (tree_of c.in-Some.node.now) apart e (sym c.in-Some.ensures) in
    ap Some c.content.ensures ∙ sym is.content
