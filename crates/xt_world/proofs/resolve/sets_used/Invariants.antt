use Rattle.std.proofs.Common.{◌≡◌, ◌++◌, map}
use Rattle.spec_run.specs.World as definition
use Rattle.xt_questions.specs.View.{sets_of}
use Rattle.xt_world.specs.Numbered.{element_called}
use Rattle.xt_world.specs.Turned.{numbers_in, units_of}
use Rattle.xt_world.proofs.resolve.sets_used.Given as goal

abbrev pub invariant-loop-name : goal.invariant-loop-name
invariant-loop-name l =
    map sets_of l.sets.items ++ definition.sets_used (element_called (numbers_in l.numbers)) (units_of l.numbers) l.name-iterator.rest.items
    ≡ definition.sets_used (element_called (numbers_in l.numbers)) (units_of l.numbers) l.fn.names.items
