use Rattle.std.proofs.Common.{◌≡◌, ◌++◌, map, drop}
use Rattle.spec_meaning.specs.Stream.{all_followed}
use Rattle.spec_result.specs.Recovery.{messages_of}
use Rattle.xt_tree.specs.StreamView.{single_of, stream_of}
use Rattle.xt_result.proofs.message.+push.Given as goal

-- what was added and the texts of the items ahead are all that there is to add
abbrev pub invariant-push_items-loop-item : goal.invariant-push_items-loop-item
invariant-push_items-loop-item l =
    l.list.items ++ messages_of (all_followed (map single_of (drop l.item-index l.item-items))) ≡ l.fn.list.items ++ messages_of (stream_of l.items)
