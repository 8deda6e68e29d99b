use Rattle.std.proofs.Common.{◌≡◌, map, drop}
use Rattle.spec_meaning.specs.Stream.{all_followed, followed}
use Rattle.spec_run.specs.Cut.{cut}
use Rattle.xt_tree.specs.StreamView.{single_of, stream_of}
use Rattle.xt_driver.proofs.cut.+cut.Given as goal

-- what is before the hole is what stands there already, and what is before it in the items ahead
abbrev pub invariant-cut-loop-item : goal.invariant-cut-loop-item
invariant-cut-loop-item l =
    followed (stream_of l.list) (cut l.left (all_followed (map single_of (drop l.item-index l.item-items)))) ≡ cut l.hole (stream_of l.items)
