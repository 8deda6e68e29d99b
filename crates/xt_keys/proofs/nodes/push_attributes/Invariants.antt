use Rattle.std.proofs.Common.{◌≡◌, ◌≤◌, ◌+◌, ◌++◌, map, drop}
use Rattle.xt_tree.specs.View.{written_of}
use Rattle.xt_keys.specs.Nodes.{attribute_refs, attributes_among}
use Rattle.xt_keys.proofs.nodes.push_attributes.Given as goal

abbrev pub invariant-loop-attribute : goal.invariant-loop-attribute
invariant-loop-attribute l =
    record {
      nodes : l.nodes.items ++ attribute_refs l.id.number (l.count + 1) (attributes_among (map written_of (drop l.attribute-index l.attributes)))
          ≡ l.fn.nodes.items ++ attribute_refs l.id.number 1 (attributes_among (map written_of l.attributes));
      bound : l.count ≤ l.attribute-index;
    }
