use Rattle.xt_compile.proofs.Declaring.{Goes}
use Rattle.xt_compile.proofs.declared.declared_by.Given as goal

abbrev pub invariant-loop-ranked : goal.invariant-loop-ranked
invariant-loop-ranked l = Goes l.declared l.ranked-iterator.rest.items l.fn.ranked.items
