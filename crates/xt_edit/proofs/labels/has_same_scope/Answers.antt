use Rattle.spec_document.specs.Place.{scope_at}
use Rattle.xt_edit.proofs.Preserved.{same_scope-is}
use Rattle.xt_edit.proofs.labels.has_same_scope.Goals as goal

pub returns : goal.returns
returns c x e y f = same_scope-is (scope_at x) (scope_at y) c.same.result (rw (← c.in_ok-old.ensures x e, ← c.in_ok-new.ensures y f) c.same.ensures)
