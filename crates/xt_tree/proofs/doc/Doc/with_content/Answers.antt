use Rattle.std.proofs.Common.{ℕ, ◌≡◌, ◌∙◌, sym, ap, subst}
use Rattle.std.specs.Option.{ForSome}
use Rattle.spec_document.specs.Forest.{Document}
use Rattle.spec_edit.specs.Splice.{children_changed, content_replaced}
use Rattle.xt_tree.specs.Edit.{KeepsNames, content_below}
use Rattle.xt_tree.specs.Keys.{key_by, entry_or}
use Rattle.xt_tree.specs.Kept.{kept_at}
use Rattle.xt_tree.specs.Numbers.{IsDocument}
use Rattle.xt_tree.specs.View.{content_of, forest_of}
use Rattle.xt_tree.proofs.Alike.{changed_alike, document_same}
use Rattle.xt_tree.proofs.ByNumber.{no_nodes}
use Rattle.xt_tree.proofs.doc.Doc.with_content.Goals as goal

pub invariant_of-result : goal.invariant_of-result
invariant_of-result c =
    let root = c.self.inside.root.number in
    let old : Document ℕ = record { root = root; nodes = forest_of c.self.inside.children.items } in
    let parent = c.args.parent.now in
    let position = c.args.position in
    let new = content_of c.args.content in
    let keys : key_by c.self.inside.keys ≡ key_by c.in_ok-keys.keys = sym (λ i n. entry_or (c.in_ok-keys.ensures n i) n) in
    let names = ap kept_at (sym c.in_ok-names.ensures.cases) in
    let nodes : children_changed (content_replaced position new) parent old.nodes ≡ forest_of c.in_ok-children.children.items =
    sym (c.in_ok-children.ensures
    ∙ ap (λ x. children_changed (content_replaced position (content_of x)) parent (forest_of c.as_slice.result.now)) (c.in_ok-content.ensures.ok ∙ c.in_ok-indexed.ensures)
    ∙ ap (λ xs. children_changed (content_replaced position new) parent (forest_of xs)) c.as_slice.ensures.value) in
    let keeps = subst (λ d. ForSome (content_below d parent position) (λ old. KeepsNames old new)) (sym c.self.view_is) c.requires in
    let whole = document_same (key_by c.self.inside.keys) (kept_at c.self.inside.names.value) root (changed_alike old parent position new keeps)
    c.self.invariant.sound in
    let made = subst (λ f. IsDocument (key_by c.in_ok-keys.keys) (kept_at c.in_ok-names.names.value) (record { root = root; nodes = f })) nodes
    (subst (λ k. IsDocument (key_by c.in_ok-keys.keys) k (record { root = root; nodes = children_changed (content_replaced position new) parent old.nodes }))
    names
    (subst (λ k. IsDocument k (kept_at c.self.inside.names.value)
    (record { root = root; nodes = children_changed (content_replaced position new) parent old.nodes })) keys whole)) in
    record { sound = made; found = no_nodes c.in_ok-by_number.by_number.value _ (ap (λ n. n.is_whole) c.in_ok-by_number.ensures.ok ∙ c.none-unknown.ensures) }
