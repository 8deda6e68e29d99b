use Rattle.std.proofs.Common.{◌≡◌, map, drop}
use Rattle.spec_meaning.specs.Stream.{followed}
use Rattle.xt_tree.specs.StreamView.{stream_of}
use Rattle.xt_tree.specs.View.{written_of}
use Rattle.xt_copy.specs.Copied.{copied_attributes}
use Rattle.xt_copy.proofs.below.own_attributes.Given as goal

abbrev pub invariant-loop-attribute : goal.invariant-loop-attribute
invariant-loop-attribute l =
    followed (stream_of l.items) (copied_attributes l.scope (map written_of (drop l.attribute-index l.attributes)))
    ≡ copied_attributes l.scope (map written_of l.attributes)
