use Rattle.std.proofs.Common.{ℕ, ◌+◌, ◌++◌, ◌∷◌, [], ◌∙◌, sym, ap}
use Rattle.spec_node.specs.declared.node_ref.NodeRef.{NodeRef}
use Rattle.spec_node.specs.declared.node_ref.Part.TheVariants as part
use Rattle.xp_axes.proofs.Sliced.{mapped_range}
use Rattle.xp_axes.proofs.own.numbered_namespaces.Goals as goal

pub loop-index-preserved : goal.loop-index-preserved
loop-index-preserved c =
    let f : ℕ → NodeRef = λ n. record { node = c.args.id; part = part.Namespace n } in
    c.in_ok-push.ensures.items ∙ ap (λ xs. xs ++ f (c.loop-index.index + 1) ∷ []) c.loop-index.invariant ∙ sym (mapped_range f c.loop-index.index)
