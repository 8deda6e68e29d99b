use Rattle.std.proofs.Common.{◌≡◌, map, drop}
use Rattle.spec_meaning.specs.Stream.{all_followed}
use Rattle.spec_result.specs.Recovery.{Standing, standing_before}
use Rattle.xt_tree.specs.StreamView.{single_of, stream_of}
use Rattle.xt_result.specs.Ahead.{all_lines}
use Rattle.xt_result.proofs.lines.+push.Given as goal

-- the lines that stand and those of the items ahead are all that there are, whatever is behind
abbrev pub invariant-push_items-loop-item : goal.invariant-push_items-loop-item
invariant-push_items-loop-item l =
    (behind : Standing) → all_lines l.fn.lines.items l.fn.text l.scope (standing_before (stream_of l.items) behind)
    ≡ all_lines l.lines.items l.text l.scope (standing_before (all_followed (map single_of (drop l.item-index l.item-items))) behind)
