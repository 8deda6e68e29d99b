use Rattle.std.proofs.Common.{◌≡◌, ℕ, ◌∙◌, sym, ap, length, arith}
use Rattle.std.specs.Prelude.{map}
use Rattle.std.specs.List.{range_with_len}
use Rattle.spec_document.specs.Place.{attributes_of}
use Rattle.xt_tree.specs.View.{written_of}
use Rattle.spec_node.specs.declared.node_ref.NodeRef.{NodeRef}
use Rattle.spec_node.specs.declared.node_ref.Part.TheVariants as part
use Rattle.xp_axes.proofs.Reached.{length_map, more_known}
use Rattle.xp_axes.proofs.own.attributes.Goals as goal

pub returns : goal.returns
returns c =
    let name : ℕ → NodeRef = λ n. record { node = c.args.id; part = part.Attribute n } in
    more_known _ _ c.numbered_attributes.result
    (λ nodes known x e.
    let count : length c.in_ok-list.list.items ≡ length (attributes_of x) =
    sym (length_map (λ a. written_of a.now) c.in_ok-list.list.items) ∙ ap length (c.in_ok-list.ensures x e) in
    let same : c.len.result ≡ length (attributes_of x) = grind (arith, count) in
    known ∙ ap (λ n. map name (range_with_len 1 n)) same)
    c.numbered_attributes.ensures
