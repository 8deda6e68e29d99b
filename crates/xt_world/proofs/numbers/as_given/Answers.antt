use Rattle.std.proofs.Common.{◌≡◌, false, true, sym, ◌∙◌}
use Rattle.xt_world.specs.Turned.{numbers_in, units_of}
use Rattle.xt_world.specs.declared.numbers.Numbers.{Numbers}
use Rattle.xt_world.proofs.Elements.{agree_so, agreed_naming, back_tells, tells_back}
use Rattle.xt_world.proofs.numbers.as_given.Goals as goal

pub returns-then-all_lead_back-clause-naming : goal.returns-then-all_lead_back-clause-naming
returns-then-all_lead_back-clause-naming c =
    back_tells (record { units = c.args.units; places = c.add_all.new.places }) c.in_ok-turns.turns.entries
    (sym c.all_lead_back.ensures ∙ c.if-all_lead_back.true)

pub returns-then-all_lead_back-clause-given : goal.returns-then-all_lead_back-clause-given
returns-then-all_lead_back-clause-given c meant are naming =
    agree_so (record { units = c.args.units; places = c.add_all.new.places }) meant
    (c.in_ok-add_all.ensures.numbers meant are c.new-places.ensures.empty)

pub returns-clause-given : goal.returns-clause-given
returns-clause-given c meant are naming =
    let numbers : Numbers = record { units = c.args.units; places = c.add_all.new.places } in
    let agree = agree_so numbers meant (c.in_ok-add_all.ensures.numbers meant are c.new-places.ensures.empty) in
    let back = tells_back numbers c.in_ok-turns.turns.entries (agreed_naming (numbers_in numbers) meant (units_of numbers) agree naming)
    c.in_ok-turns.ensures in
    let wrong : false ≡ true = sym c.if-all_lead_back.false ∙ c.all_lead_back.ensures ∙ back in
    absurd (cc)
