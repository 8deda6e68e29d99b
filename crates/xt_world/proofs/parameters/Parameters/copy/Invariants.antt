use Rattle.std.proofs.Common.{◌≡◌, drop}
use Rattle.xt_world.specs.ParameterView.{parameters_of, values_in}
use Rattle.xt_world.proofs.parameters.Parameters.copy.Given as goal

abbrev pub invariant-loop-index : goal.invariant-loop-index
invariant-loop-index l = parameters_of l.copy ≡ values_in (drop l.index l.self.values.entries)
