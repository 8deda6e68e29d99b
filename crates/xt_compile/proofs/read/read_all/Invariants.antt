use Rattle.xt_import.specs.View.{modules_in}
use Rattle.xt_compile.proofs.Reading.{Goes}
use Rattle.xt_compile.proofs.read.read_all.Given as goal

abbrev pub invariant-loop-listed : goal.invariant-loop-listed
invariant-loop-listed l = Goes (modules_in l.fn.modules.entries) l.said.items l.listed-iterator.rest.items l.fn.listed.items
