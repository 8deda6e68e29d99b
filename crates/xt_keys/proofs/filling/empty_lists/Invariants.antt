use Rattle.std.proofs.Common.{◌≡◌, [], length, take}
use Rattle.xt_keys.specs.View.{all_texts, texts_in}
use Rattle.xt_keys.proofs.filling.empty_lists.Given as goal

abbrev pub invariant-loop-node : goal.invariant-loop-node
invariant-loop-node l =
    record {
      each : length l.lists.items ≡ l._node-index;
      empty : texts_in l.lists ≡ all_texts (take l._node-index l.nodes) [];
    }
