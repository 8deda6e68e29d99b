use Rattle.std.proofs.Common.{◌∙◌, ap, arith, length, refl, sym, Some}
use Rattle.std.specs.Option.{option_map}
use Rattle.std.proofs.lemmas.Option.{slice_get-map, slice_get_past, slice_get_read}
use Rattle.xt_tree.specs.View.{tree_of}
use Rattle.xt_tree.proofs.by_number.node_at.Goals as goal

pub returns-then-index-nodes : goal.returns-then-index-nodes
returns-then-index-nodes c =
    let xs = c.args.nodes.now in
    sym (slice_get-map (λ n. tree_of n.value) xs c.args.index
    ∙ ap (option_map (λ n. tree_of n.value)) (slice_get_past xs c.args.index (omega arith)))

pub returns : goal.returns
returns c =
    let xs = c.args.nodes.now in
    let at = slice_get_read xs (length xs) c.args.index c.index-nodes-index.result refl (omega arith) c.index-nodes-index.is in
    ap (λ n. Some (tree_of n)) c.deref.ensures
    ∙ sym (slice_get-map (λ n. tree_of n.value) xs c.args.index ∙ ap (option_map (λ n. tree_of n.value)) at)
