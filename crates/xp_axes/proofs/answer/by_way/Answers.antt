use Rattle.std.proofs.Common.{Some, ◌∙◌, sym, subst}
use Rattle.xt_tree.specs.View.{IsPlaceOf}
use Rattle.xp_axes.proofs.Reached.{entry_at, more_known}
use Rattle.xp_axes.proofs.Located.{walked_is}
use Rattle.xp_axes.proofs.answer.by_way.Goals as goal

pub returns-in-Some : goal.returns-in-Some
returns-in-Some c =
    let d = c.args.document.now in
    let r = c.args.node.now in
    let path = c.in-Some.path in
    let place : IsPlaceOf d r (Some path) = subst (IsPlaceOf d r) c.in-Some.is c.in_ok-place.ensures.place in
    let e = entry_at d r path c.requires.item place (λ some ps at. sym c.in-Some.is ∙ c.in_ok-place.ensures.only some ps at) in
    more_known _ _ c.walked.result (λ nodes known. known ∙ sym (walked_is d c.args.axis r path e c.requires.walked)) c.walked.ensures
