use Rattle.std.proofs.Common.{◌≡◌, drop}
use Rattle.std.specs.List.{list_all}
use Rattle.xt_world.specs.Turned.{leads_back, units_of}
use Rattle.xt_world.specs.Units.{plain_units}
use Rattle.xt_world.proofs.numbers.all_lead_back.Given as goal

abbrev pub invariant-loop-unit : goal.invariant-loop-unit
invariant-loop-unit l =
    list_all (λ u. leads_back l.numbers l.turns.entries u.site.place) (plain_units (drop l.unit-index l.numbers.units.now))
    ≡ list_all (λ u. leads_back l.numbers l.turns.entries u.site.place) (units_of l.numbers)
