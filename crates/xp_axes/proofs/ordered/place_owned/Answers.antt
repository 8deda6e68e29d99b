use Rattle.std.proofs.Common.{None, Some, ◌∙◌, sym, ap, subst, append-nil, ◌++◌}
use Rattle.std.specs.Option.{option_to_list}
use Rattle.xt_tree.specs.View.{IsPlaceOf, itself}
use Rattle.spec_node.specs.declared.node_ref.NodeRef.{NodeRef}
use Rattle.xp_axes.proofs.Owned.{unplaced, owned_there, Only}
use Rattle.xp_axes.proofs.ordered.place_owned.Goals as goal

pub returns-in-None : goal.returns-in-None
returns-in-None c =
    let d = c.args.document.now in
    let r = c.args.node.now in
    let items = c.args.placed.now.items in
    let there : IsPlaceOf d c.of-element.result None = subst (IsPlaceOf d c.of-element.result) c.in-None.is c.in_ok-place.ensures.place in
    let place : IsPlaceOf d (itself r.node.number) None = subst (λ (s : NodeRef). IsPlaceOf d s None) c.of-element.ensures there in
    sym (ap (λ o. items ++ option_to_list o) (unplaced d c.distinct_numbers.ensures r place) ∙ append-nil items)

pub returns-in_ok-push-in-Some : goal.returns-in_ok-push-in-Some
returns-in_ok-push-in-Some c =
    let d = c.args.document.now in
    let r = c.args.node.now in
    let e = c.of-element.result in
    let path = c.in-Some.path in
    let there : IsPlaceOf d e (Some path) = subst (IsPlaceOf d e) c.in-Some.is c.in_ok-place.ensures.place in
    let place = subst (λ (s : NodeRef). IsPlaceOf d s (Some path)) c.of-element.ensures there in
    let one : Only d e path = λ some ps at. sym c.in-Some.is ∙ c.in_ok-place.ensures.only some ps at in
    let only = subst (λ (s : NodeRef). Only d s path) c.of-element.ensures one in
    c.in_ok-push-in-Some.ensures.items
    ∙ sym (ap (λ o. c.args.placed.now.items ++ option_to_list o) (owned_there d r path c.requires place only))
