use Rattle.std.proofs.Common.{◌≡◌, ◌++◌, map, drop}
use Rattle.std.specs.declared.rc.Rc.{Rc}
use Rattle.std.specs.Global.{Global}
use Rattle.xt_questions.specs.View.{resolved_of}
use Rattle.xt_questions.specs.declared.answer.ResolvedUnit.{ResolvedUnit}
use Rattle.xt_world.specs.Turned.{numbers_in, units_of}
use Rattle.xt_world.specs.Units.{plain_aliases, plain_units, resolved_among}
use Rattle.xt_world.proofs.stylesheet.resolved.Given as goal

abbrev pub invariant-loop-unit : goal.invariant-loop-unit
invariant-loop-unit l =
    map (λ (r : Rc ResolvedUnit Global). resolved_of r.value) l.list.items
    ++ resolved_among (numbers_in l.index.numbers) (plain_aliases l.aliases) (units_of l.index.numbers)
    (plain_units (drop l.unit-index l.index.numbers.units.now))
    ≡ resolved_among (numbers_in l.index.numbers) (plain_aliases l.aliases) (units_of l.index.numbers) (units_of l.index.numbers)
