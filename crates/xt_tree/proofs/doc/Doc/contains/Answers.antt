use Rattle.std.proofs.Common.{◌≡◌, ◌==◌, false, ◌∙◌, sym, ap, is_some}
use Rattle.xt_tree.specs.View.{tree_of}
use Rattle.xt_tree.proofs.Ways.{some_mapped, some_tree}
use Rattle.xt_tree.proofs.doc.Doc.contains.Goals as goal

pub returns-else-eq : goal.returns-else-eq
returns-else-eq c =
    let d = c.args.self.now in
    let number = c.args.id.number in
    let apart : (d.root == number) ≡ false = ap (λ e. e.root == number) (sym c.self.view_is) ∙ sym c.eq.ensures ∙ c.if-eq.false in
    c.is_some.ensures ∙ sym (some_mapped (λ node. tree_of node.now) c.node.result) ∙ ap is_some c.node.ensures ∙ sym (some_tree d number apart)
