use Rattle.std.proofs.Common.{◌≡◌, drop}
use Rattle.spec_compile.specs.Content.{leads}
use Rattle.xt_structure.specs.View.{in_force}
use Rattle.xt_tree.specs.View.{forest_of}
use Rattle.xt_content.proofs.body.leads.Given as goal

abbrev pub invariant-loop-sibling : goal.invariant-loop-sibling
invariant-loop-sibling l =
    leads (in_force l.fn.inside) l.fn.kind (forest_of (drop l.sibling-index l.siblings)) ≡ leads (in_force l.fn.inside) l.fn.kind (forest_of l.siblings)
