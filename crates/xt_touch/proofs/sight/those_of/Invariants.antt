use Rattle.std.proofs.Common.{◌≡◌, ◌++◌, drop}
use Rattle.std.specs.List.{filter}
use Rattle.spec_document.specs.Forest.{labels}
use Rattle.spec_change.specs.Change.{is_among}
use Rattle.spec_touch.specs.Leads.{AreTold}
use Rattle.xt_edit.specs.Telling.{numbers_in}
use Rattle.xt_tree.specs.View.{forest_of}
use Rattle.xt_touch.proofs.sight.those_of.Given as goal

abbrev pub invariant-loop-node : goal.invariant-loop-node
invariant-loop-node l =
    AreTold (labels l.document.nodes) (forest_of l.children)
    → numbers_in l.list.items ++ filter (is_among (labels l.document.nodes)) (numbers_in (drop l.node-index l.nodes))
    ≡ filter (is_among (labels l.document.nodes)) (numbers_in l.nodes)
