use Rattle.std.proofs.Common.{◌≡◌, take}
use Rattle.xt_keys.specs.View.{texts_in}
use Rattle.xt_own.specs.Keys.{lists_of, nodes_of}
use Rattle.xt_own.proofs.indexing.index_of.Given as goal

abbrev pub invariant-loop-own : goal.invariant-loop-own
invariant-loop-own l = record {
  nodes : l.nodes.items ≡ nodes_of (take l.own-index l.key.nodes.items);
  lists : texts_in l.lists ≡ lists_of (take l.own-index l.key.nodes.items);
}
