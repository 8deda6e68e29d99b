-- What is looked for in expressions.
use Rattle.std.specs.Prelude.{codes}
use Rattle.spec_compile.specs.Walk.{Test, unknown_calls, variables, calls_of}
use Rattle.xt_attributes.specs.declared.walk.Sought.{Sought}
use Rattle.xt_attributes.specs.declared.walk.Sought.TheVariants as sought

abbrev pub sought_in : Sought → Test
sought_in sought.UnknownCall = unknown_calls
sought_in sought.Variable = variables
sought_in sought.Current = calls_of (codes "current")
sought_in sought.Key = calls_of (codes "key")
