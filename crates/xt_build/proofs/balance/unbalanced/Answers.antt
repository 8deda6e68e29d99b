use Rattle.std.proofs.Common.{◌≡◌, map, reverse, sym, ◌∙◌, ap, arith, length}
use Rattle.std.specs.Option.{option_map}
use Rattle.std.proofs.lemmas.Bool.Decides.{nat_tests}
use Rattle.spec_document.specs.Balance.{may_follow}
use Rattle.xt_build.specs.View.{located_of}
use Rattle.spec_document.proofs.Balanced.{balanced, not_balanced}
use Rattle.xt_build.proofs.Balanced.{scan_stops, scan_ends, none_missing, some_missing}
use Rattle.xt_build.proofs.balance.unbalanced.Goals as goal

pub returns-then-not-may_follow : goal.returns-then-not-may_follow
returns-then-not-may_follow c =
    let refused =
    ap (λ (names : _). may_follow (option_map (λ e. e.now) c.loop-located.before) (reverse (map (λ name. name.now) names)) c.located-item.result.event)
    (sym c.as_slice.ensures.value) ∙ sym c.if-not-may_follow.ensures in
    not_balanced (map located_of c.args.events.now) c.located-item.result.line
    (sym c.loop-located.invariant
    ∙ scan_stops _ _ c.args.events.now c.loop-located.located-index c.located-item.result c.loop-located-test.true c.located-item.is refused)

pub returns-then-is_empty : goal.returns-then-is_empty
returns-then-is_empty c =
    let empty : length c.loop-located.open.items ≡ 0 = grind (arith, nat_tests, c.loop-located.open.ok.0, c.if-is_empty.ensures) in
    balanced (map located_of c.args.events.now)
    (sym c.loop-located.invariant
    ∙ scan_ends (λ name. name.now) _ c.loop-located.open.items c.args.events.now c.loop-located.located-index c.loop-located-test.false
    ∙ none_missing (λ name. name.now) c.loop-located.open.items empty)

pub returns : goal.returns
returns c =
    let some : length c.loop-located.open.items ≡ 0 → ⊥ = λ e. grind (arith, nat_tests, c.loop-located.open.ok.0, c.if-is_empty.ensures) in
    not_balanced (map located_of c.args.events.now) 0
    (sym c.loop-located.invariant
    ∙ scan_ends (λ name. name.now) _ c.loop-located.open.items c.args.events.now c.loop-located.located-index c.loop-located-test.false
    ∙ some_missing (λ name. name.now) c.loop-located.open.items some)
