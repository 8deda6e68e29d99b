use Rattle.std.proofs.Common.{◌≡◌, ◌+◌, map, drop}
use Rattle.spec_meaning.specs.Stream.{all_followed, followed, holes, filled}
use Rattle.xt_tree.specs.StreamView.{single_of, stream_of, streams_of}
use Rattle.xt_tree.proofs.filling.+filled.Given as goal

-- the holes that are left are those of the items ahead, and the parts that are left fill them
abbrev pub invariant-filled-loop-item : goal.invariant-filled-loop-item
invariant-filled-loop-item l =
    let ahead = all_followed (map single_of (drop l.item-index l.item-items)) in
    record {
      next : l.next + holes ahead ≡ l.fn.next + holes (stream_of l.items);
      stream : followed (stream_of l.list) (filled ahead (streams_of (drop l.next l.parts)))
          ≡ filled (stream_of l.items) (streams_of (drop l.fn.next l.parts));
    }
