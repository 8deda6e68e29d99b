use Rattle.std.proofs.Common.{◌≡◌, ◌≤◌, [], drop, length, take}
use Rattle.xt_own.specs.Keys.{Goes, nodes_of}
use Rattle.xt_own.proofs.pass.nodes_that_stay.Given as goal

abbrev pub invariant-loop-node : goal.invariant-loop-node
invariant-loop-node l = record {
  bound : l.passed ≤ length l.before;
  nodes : nodes_of l.found.items ≡ take l.node-index l.now;
  goes : Goes l.scene.stylesheet.now l.scene.document.now l.scene.since.now l.scene.name.now l.fn.but.items l.before [] l.but.items (drop l.passed l.before) l.found.items;
}
