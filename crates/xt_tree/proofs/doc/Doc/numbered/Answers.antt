use Rattle.std.proofs.Common.{◌∙◌, ap, subst, sym}
use Rattle.spec_document.specs.Scope.{root_scope}
use Rattle.xt_tree.specs.ByNumber.{FindsAll, trees_in}
use Rattle.xt_tree.specs.Keys.{key_by, entry_or}
use Rattle.xt_tree.specs.Kept.{AreNames, kept_at, names_in}
use Rattle.xt_tree.specs.Numbers.{IsDocument}
use Rattle.xt_tree.proofs.ByNumber.{document_nodes}
use Rattle.xt_tree.proofs.Fresh.{fresh_document}
use Rattle.xt_tree.proofs.Named.{document_names}
use Rattle.xt_tree.proofs.doc.Doc.numbered.Goals as goal

pub invariant_of-result : goal.invariant_of-result
invariant_of-result c =
    let root = c.args.root.number in
    let key = key_by c.new-keys.result in
    let kept = kept_at c.in_ok-names.names.value in
    let named = document_names c.in_ok-named.named root c.args.nodes c.in_ok-named.ensures.first
    (c.in_ok-named.ensures.names ∙ ap (names_in root_scope) c.list-siblings.ensures) c.requires.order in
    let names = subst (λ n. AreNames (kept_at n) (record { root = root; nodes = c.args.nodes })) (sym c.in_ok-names.ensures.ok) named in
    let whole = subst (λ f. IsDocument key kept (record { root = root; nodes = f })) (sym c.into_list-children.ensures)
    (fresh_document key kept root c.args.nodes (λ n. ap (λ o. entry_or o n) (c.new-keys.ensures n)) c.requires.order c.requires.limit
    c.requires.depth c.requires.fits names) in
    let nodes = document_nodes c.in_ok-found.found root c.args.nodes c.in_ok-found.ensures.first
    (c.in_ok-found.ensures.list ∙ ap trees_in c.list-siblings.ensures) c.requires.order in
    record {
      sound = whole;
      found = subst (λ f. FindsAll c.in_ok-by_number.by_number.value f) (sym c.into_list-children.ensures)
          (subst (λ n. FindsAll n c.args.nodes) (sym c.in_ok-by_number.ensures.ok) nodes);
    }
