use Rattle.std.proofs.Common.{ap, ◌∙◌, sym, subst}
use Rattle.xt_tree.specs.Keys.{key_by}
use Rattle.xt_tree.specs.Kept.{kept_at}
use Rattle.xt_tree.specs.Numbers.{IsDocument}
use Rattle.xt_tree.specs.Room.{AreKeyed}
use Rattle.xt_tree.specs.View.{forest_of}
use Rattle.xt_tree.proofs.Apart.{AreFew, are_few}
use Rattle.xt_tree.proofs.ByNumber.{no_nodes}
use Rattle.xt_tree.proofs.Named.{no_names}
use Rattle.xt_tree.proofs.doc.Doc.new.Goals as goal
use Rattle.xt_tree.proofs.doc.Doc.new.Goals.{After-list}

parts : (c : After-list) → AreFew (forest_of c.list.result.now)
parts c = subst AreFew (sym c.list.ensures) (are_few c.args.root.number c.args.nodes c.requires.numbers)

pub new_keys-requires-clause-apart : goal.new_keys-requires-clause-apart
new_keys-requires-clause-apart c = (parts (goal.at.new_keys-requires-clause-apart c).After-list).apart

pub new_keys-requires-clause-few : goal.new_keys-requires-clause-few
new_keys-requires-clause-few c = (parts (goal.at.new_keys-requires-clause-few c).After-list).size

pub invariant_of-result : goal.invariant_of-result
invariant_of-result c =
    let key = key_by c.in_ok-keys.keys in
    let kept = kept_at c.in_ok-names.names.value in
    let keyed = subst (AreKeyed key) c.list.ensures c.in_ok-keys.ensures in
    let whole = subst (λ f. IsDocument key kept (record { root = c.args.root.number; nodes = f })) (sym c.into_list.ensures)
    (record {
      numbers = c.requires.numbers;
      depth = c.requires.depth;
      fits = c.requires.fits;
      rises = keyed.rises;
      limit = keyed.limit;
      names = no_names kept _ (λ n. ap (λ names. kept_at names n) c.in_ok-names.ensures.ok ∙ c.none.ensures n);
    }) in
    record { sound = whole; found = no_nodes c.in_ok-by_number.by_number.value _ (ap (λ n. n.is_whole) c.in_ok-by_number.ensures.ok ∙ c.none-unknown.ensures) }
