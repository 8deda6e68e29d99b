use Rattle.std.proofs.Common.{◌≡◌, ◌<◌, ◌+◌, ◌++◌, ◌∷◌, [], length, append_assoc, sym, ap, ◌∙◌, arith, drop}
use Rattle.std.proofs.lemmas.List.{at_drop_more, length-map}
use Rattle.xt_names.specs.View.{entry_of, entries_of}
use Rattle.xt_keys.specs.Nodes.{namespace_ref, namespace_refs}
use Rattle.xt_keys.proofs.nodes.push_namespaces.Goals as goal

pub loop-index-preserved : goal.loop-index-preserved
loop-index-preserved c =
    let i = c.loop-index.index in
    let label = c.args.id.number in
    let old = c.loop-index.nodes.items in
    let list = c.in_ok-namespaces.namespaces.items in
    let same : length (entries_of list) ≡ length list = length-map list (λ n. entry_of n.value) in
    let within : i < length (entries_of list) = grind (arith, same) in
    let rest = namespace_refs label (i + 1 + 1) (drop (i + 1) (entries_of list)) in
    ap (λ l. l ++ rest) c.in_ok-push.ensures.items ∙ append_assoc old (namespace_ref label (i + 1) ∷ []) rest
    ∙ sym (at_drop_more (λ ns. old ++ namespace_refs label (i + 1) ns) (entries_of list) i ([], []) within) ∙ c.loop-index.invariant
