use Rattle.std.proofs.Common.{take}
use Rattle.spec_reuse.specs.Serving.{PassAlike}
use Rattle.xt_questions.specs.View.{bindings_of}
use Rattle.xt_record.specs.Names.{names_of}
use Rattle.xt_record.proofs.matching.pass_alike.Given as goal

abbrev pub invariant-loop-binding : goal.invariant-loop-binding
invariant-loop-binding l = PassAlike (names_of (take l.binding-index l.declared)) (bindings_of l.parameters) (bindings_of l.others)
