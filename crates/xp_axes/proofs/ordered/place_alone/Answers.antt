use Rattle.std.proofs.Common.{None, Some, ◌∙◌, sym, ap, subst, append-nil, ◌++◌}
use Rattle.std.specs.Option.{option_to_list}
use Rattle.xt_tree.specs.View.{IsPlaceOf}
use Rattle.xp_axes.proofs.Kept.{not_placed, placed_there}
use Rattle.xp_axes.proofs.ordered.place_alone.Goals as goal

pub returns-in-None : goal.returns-in-None
returns-in-None c =
    let d = c.args.document.now in
    let r = c.args.node.now in
    let items = c.args.placed.now.items in
    let place : IsPlaceOf d r None = subst (IsPlaceOf d r) c.in-None.is c.in_ok-place.ensures.place in
    sym (ap (λ o. items ++ option_to_list o) (not_placed d c.distinct_numbers.ensures r place) ∙ append-nil items)

pub returns-in_ok-push-in-Some : goal.returns-in_ok-push-in-Some
returns-in_ok-push-in-Some c =
    let d = c.args.document.now in
    let r = c.args.node.now in
    let path = c.in-Some.path in
    let place : IsPlaceOf d r (Some path) = subst (IsPlaceOf d r) c.in-Some.is c.in_ok-place.ensures.place in
    c.in_ok-push-in-Some.ensures.items
    ∙ sym (ap (λ o. c.args.placed.now.items ++ option_to_list o)
    (placed_there d r path place (λ some ps at. sym c.in-Some.is ∙ c.in_ok-place.ensures.only some ps at)))
