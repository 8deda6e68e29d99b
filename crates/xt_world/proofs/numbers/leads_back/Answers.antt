use Rattle.std.proofs.Common.{ap, sym, ◌∙◌}
use Rattle.std.specs.Option.{option_copied}
use Rattle.xt_syntax.specs.PartView.{place_of}
use Rattle.xt_syntax.specs.declared.unit.Unit.{Unit}
use Rattle.xt_world.specs.Turned.{is_at_turn, leads_back, turn_found}
use Rattle.xt_world.proofs.numbers.leads_back.Goals as goal

pub returns-in-Some : goal.returns-in-Some
returns-in-Some c =
    let numbers = c.args.numbers.now in
    let turns = c.args.turns.now.entries in
    let place = place_of c.deref.result.now.site.place in
    let found = ap (turn_found turns) (sym c.at-number.ensures) ∙ sym c.get.ensures.value ∙ ap option_copied c.in-Some.is in
    c.stands_at.ensures ∙ sym (ap (is_at_turn numbers.units.now place) found)
    ∙ ap (λ (u : Unit). leads_back numbers turns (place_of u.site.place)) c.deref.ensures
