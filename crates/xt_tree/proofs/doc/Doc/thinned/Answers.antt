use Rattle.std.proofs.Common.{◌≡◌, ◌∙◌, sym, ap, subst}
use Rattle.xt_tree.specs.Keys.{key_by, entry_or}
use Rattle.xt_tree.specs.Kept.{kept_at}
use Rattle.xt_tree.specs.Numbers.{IsDocument}
use Rattle.xt_tree.specs.Thinned.{LosesNodes}
use Rattle.xt_tree.proofs.ByNumber.{no_nodes}
use Rattle.xt_tree.proofs.Lost.{document_left}
use Rattle.xt_tree.proofs.doc.Doc.thinned.Goals as goal

pub invariant_of-result : goal.invariant_of-result
invariant_of-result c =
    let root = c.self.inside.root.number in
    let keys : key_by c.self.inside.keys ≡ key_by c.in_ok-keys.keys = sym (λ i n. entry_or (c.in_ok-keys.ensures n i) n) in
    let names = ap kept_at (sym c.in_ok-names.ensures.cases) in
    let lost = subst (λ d. LosesNodes d.nodes c.args.nodes) (sym c.self.view_is) c.requires in
    let whole = document_left (key_by c.self.inside.keys) (kept_at c.self.inside.names.value) root lost c.self.invariant.sound in
    let made = subst (λ f. IsDocument (key_by c.in_ok-keys.keys) (kept_at c.in_ok-names.names.value) (record { root = root; nodes = f })) (sym c.into_list-children.ensures)
    (subst (λ k. IsDocument (key_by c.in_ok-keys.keys) k (record { root = root; nodes = c.args.nodes })) names
    (subst (λ k. IsDocument k (kept_at c.self.inside.names.value) (record { root = root; nodes = c.args.nodes })) keys whole)) in
    record { sound = made; found = no_nodes c.in_ok-by_number.by_number.value _ (ap (λ n. n.is_whole) c.in_ok-by_number.ensures.ok ∙ c.none-unknown.ensures) }
