use Rattle.std.proofs.Common.{◌≡◌}
use Rattle.std.specs.Prelude.{map}
use Rattle.std.specs.List.{range_with_len}
use Rattle.spec_node.specs.declared.node_ref.Part.TheVariants as part
use Rattle.xp_axes.proofs.own.numbered_attributes.Given as goal

abbrev pub invariant-loop-index : goal.invariant-loop-index
invariant-loop-index l = l.nodes.items ≡ map (λ n. record { node = l.id; part = part.Attribute n }) (range_with_len 1 l.index)
