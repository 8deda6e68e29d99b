use Rattle.std.proofs.Common.{◌≡◌, map, drop}
use Rattle.spec_meaning.specs.Stream.{all_followed}
use Rattle.spec_result.specs.Recovery.{messages_of}
use Rattle.xt_tree.specs.StreamView.{single_of, stream_of}
use Rattle.xt_result.proofs.message.+silence.Given as goal

-- the messages of the items ahead are all that there are
abbrev pub invariant-are_silent-loop-item : goal.invariant-are_silent-loop-item
invariant-are_silent-loop-item l =
    messages_of (stream_of l.items) ≡ messages_of (all_followed (map single_of (drop l.item-index l.item-items)))
