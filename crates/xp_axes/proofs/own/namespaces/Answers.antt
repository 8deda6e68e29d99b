use Rattle.std.proofs.Common.{◌≡◌, ℕ, ◌∙◌, sym, ap, length, arith}
use Rattle.std.specs.Prelude.{map}
use Rattle.std.specs.List.{range_with_len}
use Rattle.spec_document.specs.Place.{namespaces_of}
use Rattle.xt_names.specs.View.{entry_of}
use Rattle.spec_node.specs.declared.node_ref.NodeRef.{NodeRef}
use Rattle.spec_node.specs.declared.node_ref.Part.TheVariants as part
use Rattle.xp_axes.proofs.Reached.{length_map, more_known}
use Rattle.xp_axes.proofs.own.namespaces.Goals as goal

pub returns : goal.returns
returns c =
    let name : ℕ → NodeRef = λ n. record { node = c.args.id; part = part.Namespace n } in
    more_known _ _ c.numbered_namespaces.result
    (λ nodes known x e.
    let count : length c.in_ok-list.list.items ≡ length (namespaces_of x) =
    sym (length_map (λ n. entry_of n.value) c.in_ok-list.list.items) ∙ ap length (c.in_ok-list.ensures x e) in
    let same : c.len.result ≡ length (namespaces_of x) = grind (arith, count) in
    known ∙ ap (λ n. map name (range_with_len 1 n)) same)
    c.numbered_namespaces.ensures
