use Rattle.std.proofs.Common.{◌≡◌, map, drop}
use Rattle.spec_meaning.specs.Stream.{all_followed, followed}
use Rattle.spec_run.specs.Copy.{without_attributes}
use Rattle.xt_tree.specs.StreamView.{single_of, stream_of}
use Rattle.xt_streams.proofs.fragment.+nodes.Given as goal

abbrev pub invariant-nodes-loop-item : goal.invariant-nodes-loop-item
invariant-nodes-loop-item l =
    followed (stream_of l.list) (without_attributes (all_followed (map single_of (drop l.item-index l.item-items)))) ≡ without_attributes (stream_of l.items.value)
