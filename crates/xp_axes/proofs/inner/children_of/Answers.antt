use Rattle.std.proofs.Common.{◌≡◌, ◌==◌, false, ◌∙◌, sym, ap}
use Rattle.xt_tree.specs.View.{tree_of}
use Rattle.xt_tree.proofs.Ways.{no_tree, is_tree}
use Rattle.xp_axes.proofs.inner.children_of.Goals as goal

pub returns-in-None : goal.returns-in-None
returns-in-None c x e =
    let d = c.args.document.now in
    let apart : (d.root == c.args.id.number) ≡ false = ap (λ n. n == c.args.id.number) (sym c.root.ensures) ∙ sym c.eq.ensures ∙ c.if-eq.false in
    absurd (no_tree d c.args.id.number x apart e (sym c.in-None.ensures))

pub returns-in-Some : goal.returns-in-Some
returns-in-Some c x e =
    let d = c.args.document.now in
    let apart : (d.root == c.args.id.number) ≡ false = ap (λ n. n == c.args.id.number) (sym c.root.ensures) ∙ sym c.eq.ensures ∙ c.if-eq.false in
    let is = is_tree d c.args.id.number x (tree_of c.in-Some.node.now) apart e (sym c.in-Some.ensures) in
    c.children-in-Some.ensures.forest ∙ sym is.children
