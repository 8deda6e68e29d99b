use Rattle.spec_run.specs.Documents.{Parameters}
use Rattle.xt_world.specs.View.{truth_in}
use Rattle.xt_own.specs.Keys.{AllKeys}
use Rattle.xt_own.proofs.own_reads.add_named.Given as goal

abbrev pub invariant-loop-name : goal.invariant-loop-name
invariant-loop-name l =
    (parameters : Parameters) → AllKeys l.stylesheet (truth_in l.stylesheet parameters l.document) l.fn.keys.items
    → AllKeys l.stylesheet (truth_in l.stylesheet parameters l.document) l.keys.items
