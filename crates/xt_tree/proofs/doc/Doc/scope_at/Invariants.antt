use Rattle.std.proofs.Common.{◌≡◌, drop}
use Rattle.spec_document.specs.Scope.{root_scope}
use Rattle.xt_tree.specs.View.{forest_of, scope_from}
use Rattle.xt_tree.proofs.doc.Doc.scope_at.Given as goal

abbrev pub invariant-loop-position : goal.invariant-loop-position
invariant-loop-position l =
    scope_from (drop l.position-index l.path) l.scope (forest_of l.siblings) ≡ scope_from l.path root_scope l.self.nodes
