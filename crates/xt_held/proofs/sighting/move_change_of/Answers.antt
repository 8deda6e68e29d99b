use Rattle.std.proofs.Common.{ℕ, ◌≡◌, subst, sym}
use Rattle.std.specs.Prelude.{IfOk}
use Rattle.std.specs.Option.{option_map}
use Rattle.spec_document.specs.Forest.{Document}
use Rattle.spec_move.specs.Changed.{IsMove, move_change}
use Rattle.xt_edit.specs.MoveTelling.{move_change_in}
use Rattle.xt_held.proofs.sighting.move_change_of.Goals as goal

pub move_change_of-requires : goal.move_change_of-requires
move_change_of-requires c =
    let path = c.args.path.now in
    let other = c.args.other.now in
    subst (λ (d : Document ℕ). IsMove path other d c.document-2.result.now) (sym c.document.ensures)
    (subst (λ (d : Document ℕ). IsMove path other c.args.old.now d) (sym c.document-2.ensures) c.requires)

pub returns : goal.returns
returns c =
    let Told : Document ℕ → Document ℕ → Type 0 = λ old new. IfOk c.move_change_of.result (λ change.
    option_map move_change_in change ≡ move_change c.args.path.now c.args.other.now old new) in
    subst (λ (d : Document ℕ). Told d c.args.new.now) c.document.ensures
    (subst (λ (d : Document ℕ). Told c.document.result.now d) c.document-2.ensures c.move_change_of.ensures)
