use Rattle.std.proofs.Common.{◌≡◌, drop}
use Rattle.std.specs.List.{list_any}
use Rattle.spec_touch.specs.Touched.{goes_or_comes}
use Rattle.xt_touch.proofs.source.SourceMarks.any_goes_or_comes.Given as goal

abbrev pub invariant-loop-node : goal.invariant-loop-node
invariant-loop-node l = list_any (goes_or_comes l.self) (drop l.node-index l.nodes) ≡ list_any (goes_or_comes l.self) l.nodes
