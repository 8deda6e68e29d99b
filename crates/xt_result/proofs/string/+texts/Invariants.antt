use Rattle.std.proofs.Common.{◌≡◌, ◌++◌, map, drop}
use Rattle.spec_meaning.specs.Stream.{all_followed, texts_of}
use Rattle.xt_tree.specs.StreamView.{single_of, stream_of}
use Rattle.xt_result.proofs.string.+texts.Given as goal

-- what was added and the texts of the items ahead are all that there is to add
abbrev pub invariant-push_texts-loop-item : goal.invariant-push_texts-loop-item
invariant-push_texts-loop-item l =
    l.text ++ texts_of (all_followed (map single_of (drop l.item-index l.item-items))) ≡ l.fn.text ++ texts_of (stream_of l.items)
