use Rattle.std.proofs.Common.{ℕ, ◌≡◌, Some, subst, sym}
use Rattle.std.specs.Prelude.{IfOk}
use Rattle.spec_change.specs.Change as spec
use Rattle.spec_change.specs.Change.{IsEdit}
use Rattle.spec_document.specs.Forest.{Document}
use Rattle.xt_edit.specs.Telling.{change_in}
use Rattle.xt_edit.specs.View.{edit_of}
use Rattle.xt_held.proofs.sighting.change_of.Goals as goal

pub change_of-requires : goal.change_of-requires
change_of-requires c =
    let edit = edit_of c.args.edit.now in
    subst (λ (d : Document ℕ). IsEdit edit d c.document-2.result.now) (sym c.document.ensures)
    (subst (λ (d : Document ℕ). IsEdit edit c.args.old.now d) (sym c.document-2.ensures) c.requires)

pub returns : goal.returns
returns c =
    let Told : Document ℕ → Document ℕ → Type 0 = λ old new. IfOk c.change_of.result (λ change.
    spec.change_of (edit_of c.args.edit.now) old new ≡ Some (change_in change)) in
    subst (λ (d : Document ℕ). Told d c.args.new.now) c.document.ensures
    (subst (λ (d : Document ℕ). Told c.document.result.now d) c.document-2.ensures c.change_of.ensures)
