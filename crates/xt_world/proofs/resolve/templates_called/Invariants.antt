use Rattle.std.proofs.Common.{◌≡◌, ◌++◌, drop, map}
use Rattle.spec_run.specs.World as definition
use Rattle.xt_questions.specs.View.{template_of}
use Rattle.xt_world.specs.Numbered.{element_called}
use Rattle.xt_world.specs.Turned.{numbers_in, units_of}
use Rattle.xt_world.proofs.resolve.templates_called.Given as goal

abbrev pub invariant-loop-name : goal.invariant-loop-name
invariant-loop-name l =
    map template_of l.templates.items
    ++ definition.templates_called (element_called (numbers_in l.index.numbers)) (units_of l.index.numbers) (drop l.name-index l.names)
    ≡ definition.templates_called (element_called (numbers_in l.index.numbers)) (units_of l.index.numbers) l.names
