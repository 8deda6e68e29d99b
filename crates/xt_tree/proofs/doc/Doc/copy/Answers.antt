use Rattle.std.proofs.Common.{ap, ◌∙◌, sym, subst}
use Rattle.xt_tree.specs.ByNumber.{FindsAll}
use Rattle.xt_tree.specs.Keys.{entry_or, key_by}
use Rattle.xt_tree.specs.Kept.{kept_at}
use Rattle.xt_tree.specs.Numbers.{IsDocument}
use Rattle.xt_tree.specs.View.{forest_of}
use Rattle.xt_tree.proofs.Parted.{same_document}
use Rattle.xt_tree.proofs.doc.Doc.copy.Goals as goal

pub invariant_of-result : goal.invariant_of-result
invariant_of-result c =
    let i = c.self.inside in
    let own = key_by c.in_ok-keys.keys in
    let kept = kept_at c.in_ok-names.names.value in
    let root = i.root.number in
    let is = c.in_ok-children.ensures ∙ ap forest_of c.as_slice.ensures.value in
    let whole = subst (λ f. IsDocument own kept (record { root = root; nodes = f })) (sym is)
    (same_document (key_by i.keys) own (kept_at i.names.value) kept root (forest_of i.children.items) (λ n. ap (λ o. entry_or o n) (c.in_ok-keys.ensures n))
    (λ n. ap (λ names. kept_at names n) c.in_ok-names.ensures.cases) c.self.invariant.sound) in
    record {
      sound = whole;
      found = subst (λ f. FindsAll c.in_ok-by_number.by_number.value f) (sym is)
          (subst (λ n. FindsAll n (forest_of i.children.items)) (sym c.in_ok-by_number.ensures.cases) c.self.invariant.found);
    }
