use Rattle.std.proofs.Common.{◌≡◌, None, drop}
use Rattle.spec_run.specs.World.{is_global, last_element}
use Rattle.xt_world.specs.Indexed.{place_at}
use Rattle.xt_world.specs.Units.{plain_units}
use Rattle.xt_world.specs.declared.key.NameKey.{NameKey}
use Rattle.xt_world.proofs.index.globals_of.Given as goal

abbrev pub invariant-loop-unit : goal.invariant-loop-unit
invariant-loop-unit l =
    (key : NameKey)
    → last_element (is_global key.name.now) (place_at l.globals.entries key) (plain_units (drop l.unit-index l.units))
    ≡ last_element (is_global key.name.now) None (plain_units l.units)
