use Rattle.std.proofs.Common.{None, Some, sym, subst, ◌∙◌}
use Rattle.spec_meaning.specs.Question.{SomeText}
use Rattle.spec_meaning.specs.Truth.{identifier}
use Rattle.xt_tree.specs.View.{IsPlaceOf}
use Rattle.xt_document_world.proofs.Told.{told_gone, told_place}
use Rattle.xt_document_world.proofs.world.place.Goals as goal

pub returns-in-None : goal.returns-in-None
returns-in-None c =
    let d = c.args.document.now in
    let r = c.args.node.now in
    let place : IsPlaceOf d r None = subst (IsPlaceOf d r) c.in-None.is c.in_ok-place.ensures.place in
    sym (told_gone d c.distinct_numbers.ensures r (λ e. SomeText (identifier e)) place)

pub returns-in_ok-text-in-Some : goal.returns-in_ok-text-in-Some
returns-in_ok-text-in-Some c =
    let d = c.args.document.now in
    let r = c.args.node.now in
    let path = c.in-Some.path in
    let place : IsPlaceOf d r (Some path) = subst (IsPlaceOf d r) c.in-Some.is c.in_ok-place.ensures.place in
    sym (told_place d r path c.in_ok-text-in-Some.text place (λ some ps at. sym c.in-Some.is ∙ c.in_ok-place.ensures.only some ps at) c.in_ok-text-in-Some.ensures)
