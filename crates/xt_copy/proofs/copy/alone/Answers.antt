use Rattle.std.proofs.Common.{Some, sym, ap, ◌∙◌}
use Rattle.std.proofs.lemmas.Result.{IfOk-weaker}
use Rattle.xt_tree.specs.View.{item_of}
use Rattle.xt_copy.proofs.Answers.{leaf_told}
use Rattle.xt_copy.proofs.copy.alone.Goals as goal

pub returns : goal.returns
returns c =
    let leaf = leaf_told (item_of c.args.document.now c.args.node.now) c.kind-kind.result c.in_ok-written.written c.in_ok-name.name c.in_ok-value.value
    c.kind-kind.ensures c.in_ok-written.ensures c.in_ok-name.ensures c.in_ok-value.ensures in
    IfOk-weaker c.single.result _ _ (λ items is. leaf ∙ ap Some (sym (is ∙ c.in_ok-item.ensures))) c.single.ensures
