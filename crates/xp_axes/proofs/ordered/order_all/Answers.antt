use Rattle.std.proofs.Common.{◌≡◌, ◌∙◌, ap}
use Rattle.std.specs.Prelude.{map}
use Rattle.std.specs.List.{list_any}
use Rattle.std.specs.Ordering.{eq_by_cmp}
use Rattle.xp_axes.specs.Placed.{Placed, placed_cmp, places_of}
use Rattle.xp_axes.proofs.Reached.{more_known}
use Rattle.xp_axes.proofs.Kept.{order_is}
use Rattle.xp_axes.proofs.ordered.order_all.Goals as goal

pub returns : goal.returns
returns c =
    let out = c.in_order-placed.result.items in
    let same : (p : Placed) → list_any (eq_by_cmp placed_cmp p) out ≡ list_any (eq_by_cmp placed_cmp p) (places_of c.args.document.now c.args.nodes.now)
    = λ p. c.in_order-placed.ensures.same p ∙ ap (list_any (eq_by_cmp placed_cmp p)) c.in_ok-placed.ensures in
    let is = order_is c.args.document.now c.distinct_numbers.ensures c.args.nodes.now out c.in_order-placed.ensures.order same in
    more_known _ _ c.names.result (λ nodes known. known ∙ ap (map (λ (p : Placed). p.node)) c.as_slice.ensures.value ∙ is) c.names.ensures
