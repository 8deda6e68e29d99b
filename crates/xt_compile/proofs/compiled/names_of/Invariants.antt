use Rattle.std.proofs.Common.{◌≡◌, take}
use Rattle.xt_import.specs.Tree.{names_in}
use Rattle.xt_compile.proofs.compiled.names_of.Given as goal

abbrev pub invariant-loop-module : goal.invariant-loop-module
invariant-loop-module l = l.names.items ≡ names_in (take l.module-index l.listed)
